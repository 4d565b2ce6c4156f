-- What calls may do with the texts that they are given, for any property of pieces that each step preserves.
use Rattle.sql_builder.proofs.Imports.{◌≡◌, ◌∙◌, ap, ℕ, Bool, true, ◌&&◌, not, List, [], ◌∷◌, ◌++◌, map, codes, refl, ◌==◌, flat_map, AllByRecursion, list_all}
use Rattle.sql_builder.proofs.Imports.{list_any, and_from, and_parts, not-true, or_from, list_all-append, list_any-append, is_clause_word, join_with, Token}
use Rattle.sql_builder.proofs.Imports.{begins_with, closed, ends_with, has_semicolon, is_edge, is_even, Pieces}
use Rattle.sql_builder.specs.{CallText, field_text, not_text, call_quoted_texts, own, RawText, Bare, Enclosed, comma_list, count, count_as, in_brackets, row}
use Rattle.sql_builder.specs.{Piece, fixed_piece, quoted_piece, raw_piece}
use Rattle.sql_builder.specs.Pieces as printed
use Rattle.sql_builder.specs.WhereTokens as where_tokens
use Rattle.sql_builder.proofs.pieces.ShapeLemmas.{Following, Inside, Whole, following-append, inside-inside, none-following, none-inside, words-first}
use Rattle.sql_builder.proofs.pieces.ShapeLemmas.{words-following, words-inside}
use Rattle.sql_builder.proofs.reading.ClauseWordLemmas.{own-append}
use Rattle.sql_builder.proofs.reading.SectionLemmas.{Neutral}
use Rattle.sql_builder.proofs.tokens.{is_even-append, is_even-brackets}
use Rattle.sql_builder.proofs.lists.{tested-all}

-- no byte is a `$`
abbrev pub lacks_dollar : List ℕ → Bool
lacks_dollar words = list_all (λ byte. not (byte == 36)) words

-- words of the builder's own: whole tokens without `;`, brackets that close, no clause word, and no `$`
abbrev pub are_own : List ℕ → Bool
are_own words =
    (closed words && not (has_semicolon words))
    && (is_even (own (fixed_piece words)) && (not (list_any is_clause_word (own (fixed_piece words))) && lacks_dollar words))

-- such words with an edge at both ends
abbrev pub are_between : List ℕ → Bool
are_between words = are_own words && (begins_with is_edge words && ends_with is_edge words)

own-whole : (words : List ℕ) → are_own words ≡ true → Whole words
own-whole words is =
    let both = and_parts (closed words) (not (has_semicolon words)) (and_parts (closed words && not (has_semicolon words)) _ is).0 in
    record { is_closed = both.0; plain = not-true _ both.1 }

own-neutral : (words : List ℕ) → are_own words ≡ true → Neutral (fixed_piece words)
own-neutral words is =
    let both = and_parts (is_even (own (fixed_piece words))) _ (and_parts (closed words && not (has_semicolon words)) _ is).1 in
    record { even = both.0; no_word = not-true _ (and_parts (not (list_any is_clause_word (own (fixed_piece words)))) _ both.1).0 }

pub own-unmarked : (words : List ℕ) → are_own words ≡ true → lacks_dollar words ≡ true
own-unmarked words is =
    let both = and_parts (is_even (own (fixed_piece words))) _ (and_parts (closed words && not (has_semicolon words)) _ is).1 in
    (and_parts (not (list_any is_clause_word (own (fixed_piece words)))) _ both.1).1

-- P of pieces, and Q of what may follow some, which the builder's own words keep
pub record PreservedByWords (P Q : Pieces → Type 0) : Type 0 where
  pub none : P []
  pub nothing : Q []
  pub append : (x y : Pieces) → P x → Q y → P (x ++ y)
  pub further : (x y : Pieces) → Q x → Q y → Q (x ++ y)
  pub words : (words : List ℕ) → are_own words ≡ true → P (fixed_piece words)
  pub ending : (words : List ℕ) → are_own words ≡ true → begins_with is_edge words ≡ true → Q (fixed_piece words)
  pub before : (words : List ℕ) (x : Pieces) → are_own words ≡ true → ends_with is_edge words ≡ true → P x → P (fixed_piece words ++ x)
  pub behind : (words : List ℕ) (x : Pieces) → are_between words ≡ true → P x → Q (fixed_piece words ++ x)

-- a property that pieces side by side keep, and words of the builder's own
pub by_append : {P : Pieces → Type 0} → P [] → ((x y : Pieces) → P x → P y → P (x ++ y)) → ((words : List ℕ) → Neutral (fixed_piece words) → P (fixed_piece words))
    → PreservedByWords P P
by_append none append words = record {
  none = none;
  nothing = none;
  append = append;
  further = append;
  words = λ text is. words text (own-neutral text is);
  ending = λ text is begins. words text (own-neutral text is);
  before = λ text x is ends h. append (fixed_piece text) x (words text (own-neutral text is)) h;
  behind = λ text x is h. append (fixed_piece text) x (words text (own-neutral text (and_parts (are_own text) _ is).0)) h;
}

abbrev pub Each : (Pieces → Type 0) → List Pieces → Type 0
Each P items = AllByRecursion P items

module _ {P Q : Pieces → Type 0} (joins : PreservedByWords P Q) where
  -- a text, words and another text
  pub between : (words : List ℕ) (left right : Pieces) → are_between words ≡ true → P left → P right → P (left ++ (fixed_piece words ++ right))
  between words left right is before after = joins.append left (fixed_piece words ++ right) before (joins.behind words right is after)

  -- items with words before each
  pub before-each : (words : List ℕ) → are_between words ≡ true → (items : List Pieces) → Each P items
      → Q (flat_map (λ item. fixed_piece words ++ item) items)
  before-each words is [] all = joins.nothing
  before-each words is (item ∷ items) all =
      joins.further (fixed_piece words ++ item) (flat_map (λ (i : Pieces). fixed_piece words ++ i) items)
      (joins.behind words item is all.0) (before-each words is items all.1)

  pub joined : (words : List ℕ) → are_between words ≡ true → (items : List Pieces) → Each P items → P (join_with (fixed_piece words) items)
  joined words is [] all = joins.none
  joined words is (item ∷ items) all =
      joins.append item (flat_map (λ (i : Pieces). fixed_piece words ++ i) items) all.0 (before-each words is items all.1)

  pub listed : (items : List Pieces) → Each P items → P (comma_list fixed_piece items)
  listed items all = joined (codes ", ") refl items all

-- What a call may do: it preserves P of what it makes and Q of what may follow some, F of fields and U of a union's query, `ok` is asked of
-- each of its raw texts, and `fine` of each text that it quotes.
pub record PreservedByCalls (enclosed : Bool) (ok : RawText → Bool) (fine : List ℕ → Bool) (P Q F U : Pieces → Type 0) : Type 0 where
  pub joins : PreservedByWords P Q
  pub bare : (text : List ℕ) → ok (Bare text) ≡ true → P (raw_piece text)
  pub quoted : (text : List ℕ) → fine text ≡ true → P (quoted_piece text)
  pub row : (values : List (List ℕ)) → list_all ok (map Enclosed values) ≡ true → P (row fixed_piece (map raw_piece values))
  pub in_list : (negated : Bool) (values : List (List ℕ)) → list_all ok (map Enclosed values) ≡ true
      → Q (fixed_piece (not_text negated ++ codes " IN (") ++ (comma_list fixed_piece (map raw_piece values) ++ fixed_piece (codes ")")))
  pub in_quoted : (negated : Bool) (values : List (List ℕ)) → list_all fine values ≡ true
      → Q (fixed_piece (not_text negated ++ codes " IN (") ++ (comma_list fixed_piece (map quoted_piece values) ++ fixed_piece (codes ")")))
  pub in_query : (negated : Bool) (query : List ℕ) → ok (Enclosed query) ≡ true
      → Q (fixed_piece (not_text negated ++ codes " IN (") ++ (raw_piece query ++ fixed_piece (codes ")")))
  pub field : (field : List ℕ) → ok (field_text enclosed field) ≡ true → F (raw_piece field)
  pub count : (field : List ℕ) → ok (Enclosed field) ≡ true → F (count fixed_piece (raw_piece field))
  pub count_as : (field name : List ℕ) → ok (Enclosed field) ≡ true → ok (field_text enclosed name) ≡ true
      → F (count_as fixed_piece (raw_piece field) (raw_piece name))
  pub union : (query : List ℕ) → ok (Enclosed query) ≡ true → U (raw_piece query)

pub one : {enclosed : Bool} {ok : RawText → Bool} {fine : List ℕ → Bool} {P Q F U : Pieces → Type 0} → PreservedByCalls enclosed ok fine P Q F U
    → (text : List ℕ) → (ok (Bare text) && true) ≡ true → P (raw_piece text)
one {ok = ok} preserved text all = preserved.bare text (and_parts (ok (Bare text)) true all).0

-- ---- pieces that keep their tokens

-- and that may follow a fragment
abbrev pub Behind : Pieces → Type 0
Behind ps = Inside ps × Following ps

-- behind words that end in an edge, and begin with one
pub words-behind : (words : List ℕ) (x : Pieces) → Whole words → begins_with is_edge words ≡ true → ends_with is_edge words ≡ true → Inside x
    → Behind (fixed_piece words ++ x)
words-behind words x is begins ends inside = (words-first words x is ends inside, words-following words x begins)

pub inside-joins : PreservedByWords Inside Behind
inside-joins = record {
  none = none-inside;
  nothing = (none-inside, none-following);
  append = λ x y one other. inside-inside x y one other.1 other.0;
  further = λ x y one other. (inside-inside x y one.0 other.1 other.0, following-append x y one.1 other.1);
  words = λ words is. words-inside words (own-whole words is);
  ending = λ words is begins. (words-inside words (own-whole words is), words-following words [] begins);
  before = λ words x is ends inside. words-first words x (own-whole words is) ends inside;
  behind = λ words x is inside.
      let both = and_parts (are_own words) _ is in
      let edges = and_parts (begins_with is_edge words) (ends_with is_edge words) both.1 in
      words-behind words x (own-whole words both.0) edges.0 edges.1 inside;
}

-- ---- neutral pieces

pub neutral-none : Neutral []
neutral-none = record { even = refl; no_word = refl }

pub neutral-raw : (text : List ℕ) → Neutral (raw_piece text)
neutral-raw text = record { even = refl; no_word = refl }

pub neutral-quoted : (text : List ℕ) → Neutral (quoted_piece text)
neutral-quoted text = record { even = refl; no_word = refl }

pub neutral-append : (x y : Pieces) → Neutral x → Neutral y → Neutral (x ++ y)
neutral-append x y one other = record {
  even = ap is_even (own-append x y) ∙ is_even-append (own x) (own y) one.even other.even;
  no_word = ap (list_any is_clause_word) (own-append x y) ∙ list_any-append is_clause_word (own x) (own y) ∙ or_from _ _ one.no_word other.no_word;
}

pub neutral-joins : PreservedByWords Neutral Neutral
neutral-joins = by_append neutral-none neutral-append (λ words neutral. neutral)

-- an item in brackets
own-brackets : (x : Pieces) → own (in_brackets fixed_piece x) ≡ where_tokens.in_brackets (own x)
unfolding where_tokens.in_brackets
own-brackets x = ap (λ ts. Token.Symbol 40 ∷ ts) (own-append x (fixed_piece (codes ")")))

pub neutral-brackets : (x : Pieces) → Neutral x → Neutral (in_brackets fixed_piece x)
neutral-brackets x neutral = record {
  even = ap is_even (own-brackets x) ∙ is_even-brackets (own x) neutral.even;
  no_word = ap (list_any is_clause_word) (own-append x (fixed_piece (codes ")"))) ∙ list_any-append is_clause_word (own x) (own (fixed_piece (codes ")")))
      ∙ or_from _ _ neutral.no_word refl;
}

pub neutral-list : (items : List Pieces) → Each Neutral items → Neutral (comma_list fixed_piece items)
neutral-list items all = listed neutral-joins items all

-- ---- pieces whose fragments pass a test, and whose quoted texts pass another

-- every text passes
abbrev pub whatever : List ℕ → Bool
whatever text = true

pub all-whatever : (texts : List (List ℕ)) → list_all whatever texts ≡ true
all-whatever [] = refl
all-whatever (text ∷ texts) = all-whatever texts

pub calls-whatever : (calls : List CallText) → list_all (λ c. list_all whatever (call_quoted_texts c)) calls ≡ true
calls-whatever [] = refl
calls-whatever (c ∷ calls) = and_from _ _ (all-whatever (call_quoted_texts c)) (calls-whatever calls)

module _ (test fine : List ℕ → Bool) where
  abbrev pub piece_passes : Piece → Bool
  piece_passes (printed.Raw text) = test text
  piece_passes (printed.Quoted text) = fine text
  piece_passes _ = true

  abbrev pub Passes : Pieces → Type 0
  Passes ps = list_all piece_passes ps ≡ true

  pub passes-append : (x y : Pieces) → Passes x → Passes y → Passes (x ++ y)
  passes-append x y one other = list_all-append piece_passes x y ∙ and_from _ _ one other

  pub passes-joins : PreservedByWords Passes Passes
  passes-joins = by_append refl passes-append (λ words neutral. refl)

  pub raw-passes : (text : List ℕ) → test text ≡ true → Passes (raw_piece text)
  raw-passes text h = and_from _ _ h refl

  pub raws-pass : (values : List (List ℕ)) → list_all test values ≡ true → Each Passes (map raw_piece values)
  raws-pass values all = tested-all Passes raw_piece test raw-passes values all

  pub quoted-passes : (text : List ℕ) → fine text ≡ true → Passes (quoted_piece text)
  quoted-passes text h = and_from _ _ h refl

  pub quoteds-pass : (values : List (List ℕ)) → list_all fine values ≡ true → Each Passes (map quoted_piece values)
  quoteds-pass values all = tested-all Passes quoted_piece fine quoted-passes values all

  -- words, what follows them, and words that end it
  pub within : (words : List ℕ) (x : Pieces) (ending : List ℕ) → Passes x → Passes (fixed_piece words ++ (x ++ fixed_piece ending))
  within words x ending h = passes-append x (fixed_piece ending) h refl
