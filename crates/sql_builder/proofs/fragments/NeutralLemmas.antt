-- What calls write of their own has no clause word, its brackets close, and it keeps its tokens, whatever texts they are given.
use Rattle.sql_builder.specs.{RawText, condition_quoted_texts, CallText, StartText, clauses, start_fields, call_raw_texts, start_raw_texts, map_clauses}
use Rattle.sql_builder.specs.{ConditionText, not_text, condition_pieces, condition_raw_texts, comma_list, count, count_as, in_brackets, fixed_piece}
use Rattle.sql_builder.specs.{quoted_piece, raw_piece}
use Rattle.sql_builder.proofs.conditions.{condition-preserved}
use Rattle.sql_builder.proofs.fragments.PropertyLemmas.{all-whatever, calls-whatever, whatever, Behind, PreservedByCalls, PreservedByWords, inside-joins}
use Rattle.sql_builder.proofs.fragments.PropertyLemmas.{listed, neutral-brackets, neutral-joins, neutral-quoted, neutral-raw, words-behind}
use Rattle.sql_builder.proofs.Imports.{◌≡◌, refl, ℕ, Bool, true, false, List, [], ◌∷◌, ◌++◌, map, codes, list_all, and_from, Clauses, Pieces}
use Rattle.sql_builder.specs.Calls as call
use Rattle.sql_builder.proofs.lists.{map-all}
use Rattle.sql_builder.proofs.fragments.ClauseFacts.{PartsAre, raw-parts}
use Rattle.sql_builder.proofs.fragments.PreservationLemmas.{clauses-preserved}
use Rattle.sql_builder.proofs.pieces.ShapeLemmas.{Inside, brackets-inside, closing-last, quoted-inside, raw-inside, words-between, words-first}
use Rattle.sql_builder.proofs.reading.SectionLemmas.{Neutral}

pub neutral-target : (x : Pieces) → Neutral x → Neutral (fixed_piece (codes " (") ++ (x ++ fixed_piece (codes ")")))
neutral-target x neutral = let made = neutral-brackets x neutral in record { even = made.even; no_word = made.no_word }

pub neutral-in : (negated : Bool) (x : Pieces) → Neutral x → Neutral (fixed_piece (not_text negated ++ codes " IN (") ++ (x ++ fixed_piece (codes ")")))
neutral-in true x neutral = let made = neutral-brackets x neutral in record { even = made.even; no_word = made.no_word }
neutral-in false x neutral = let made = neutral-brackets x neutral in record { even = made.even; no_word = made.no_word }

-- whatever is given
abbrev pub any : RawText → Bool
any text = true

pub by_any : {P Q : Pieces → Type 0} → PreservedByWords P Q → ((text : List ℕ) → P (raw_piece text)) → ((text : List ℕ) → P (quoted_piece text))
    → ((x : Pieces) → P x → P (in_brackets fixed_piece x))
    → ((negated : Bool) (x : Pieces) → P x → Q (fixed_piece (not_text negated ++ codes " IN (") ++ (x ++ fixed_piece (codes ")"))))
    → ((field : List ℕ) → P (count fixed_piece (raw_piece field))) → ((field name : List ℕ) → P (count_as fixed_piece (raw_piece field) (raw_piece name)))
    → PreservedByCalls false any whatever P Q P P
by_any {P = P} joins raw quoted brackets in_words count count_as =
    let raws = λ (values : List (List ℕ)). listed joins (map raw_piece values) (map-all P raw_piece raw values) in
    record {
      joins = joins;
      bare = λ text h. raw text;
      quoted = λ text h. quoted text;
      row = λ values h. brackets (comma_list fixed_piece (map raw_piece values)) (raws values);
      in_list = λ negated values h. in_words negated (comma_list fixed_piece (map raw_piece values)) (raws values);
      in_quoted = λ negated values h. in_words negated (comma_list fixed_piece (map quoted_piece values))
          (listed joins (map quoted_piece values) (map-all P quoted_piece quoted values));
      in_query = λ negated query h. in_words negated (raw_piece query) (raw query);
      field = λ field h. raw field;
      count = λ field h. count field;
      count_as = λ field name h k. count_as field name;
      union = λ query h. raw query;
    }

pub all-any : (texts : List RawText) → list_all any texts ≡ true
all-any [] = refl
all-any (text ∷ texts) = all-any texts

pub calls-any : (calls : List CallText) → list_all (λ c. list_all any (call_raw_texts false c)) calls ≡ true
calls-any [] = refl
calls-any (c ∷ calls) = and_from _ _ (all-any (call_raw_texts false c)) (calls-any calls)

module _ {P Q : Pieces → Type 0} (preserved : PreservedByCalls false any whatever P Q P P) where
  pub condition-any : (condition : ConditionText) → P (condition_pieces condition)
  condition-any condition = condition-preserved preserved condition
      (all-whatever (condition_quoted_texts condition)) (all-any (condition_raw_texts condition))

  pub clauses-any : (start : StartText) (calls : List CallText) → PartsAre P P P (clauses start calls)
  clauses-any start calls = clauses-preserved preserved start calls (calls-whatever calls) (all-any (start_raw_texts start))
      (all-any (call_raw_texts false (call.SetFields (start_fields start)))) (calls-any calls)

-- ---- own words

neutral-preserved : PreservedByCalls false any whatever Neutral Neutral Neutral Neutral
neutral-preserved = by_any neutral-joins neutral-raw neutral-quoted neutral-brackets neutral-in (λ field. record { even = refl; no_word = refl })
    (λ field name. record { even = refl; no_word = refl })

pub condition-neutral : (condition : ConditionText) → Neutral (condition_pieces condition)
condition-neutral condition = condition-any neutral-preserved condition

abbrev pub NeutralParts : Clauses Pieces → Type 0
NeutralParts r = PartsAre Neutral Neutral Neutral r

pub clauses-neutral : (start : StartText) (calls : List CallText) → NeutralParts (clauses start calls)
clauses-neutral start calls = clauses-any neutral-preserved start calls

-- the clauses of a builder
pub raw-neutral : (r : Clauses (List ℕ)) → NeutralParts (map_clauses raw_piece r)
raw-neutral r = raw-parts Neutral neutral-raw r

-- ---- tokens

in-behind : (negated : Bool) (x : Pieces) → Inside x → Behind (fixed_piece (not_text negated ++ codes " IN (") ++ (x ++ fixed_piece (codes ")")))
in-behind true x inside = words-behind (codes " NOT IN (") (x ++ fixed_piece (codes ")")) (record { is_closed = refl; plain = refl }) refl refl
    (closing-last x inside)
in-behind false x inside = words-behind (codes " IN (") (x ++ fixed_piece (codes ")")) (record { is_closed = refl; plain = refl }) refl refl
    (closing-last x inside)

-- what follows COUNT and its bracket
count-inside : (x : Pieces) → Inside x → Inside (fixed_piece (codes "COUNT(") ++ x)
count-inside x inside = words-first (codes "COUNT(") x (record { is_closed = refl; plain = refl }) refl inside

pub count_as-inside : (field name : List ℕ) → Inside (count_as fixed_piece (raw_piece field) (raw_piece name))
count_as-inside field name =
    count-inside (raw_piece field ++ (fixed_piece (codes ") AS ") ++ raw_piece name))
    (words-between (codes ") AS ") (raw_piece field) (raw_piece name) (record { is_closed = refl; plain = refl }) refl refl
    (raw-inside field) (raw-inside name))

inside-preserved : PreservedByCalls false any whatever Inside Behind Inside Inside
inside-preserved = by_any inside-joins raw-inside quoted-inside brackets-inside in-behind
    (λ field. count-inside (raw_piece field ++ fixed_piece (codes ")")) (closing-last (raw_piece field) (raw-inside field))) count_as-inside

pub condition-inside : (condition : ConditionText) → Inside (condition_pieces condition)
condition-inside condition = condition-any inside-preserved condition

abbrev pub InsideParts : Clauses Pieces → Type 0
InsideParts r = PartsAre Inside Inside Inside r

pub clauses-inside : (start : StartText) (calls : List CallText) → InsideParts (clauses start calls)
clauses-inside start calls = clauses-any inside-preserved start calls

pub raw-inside-parts : (r : Clauses (List ℕ)) → InsideParts (map_clauses raw_piece r)
raw-inside-parts r = raw-parts Inside raw-inside r
