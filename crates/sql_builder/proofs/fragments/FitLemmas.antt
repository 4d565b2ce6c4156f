-- Texts that are fit, one by one, make fragments that are fit.
use Rattle.sql_builder.specs.{RawText, Bare, Enclosed, all_pass, raw_text, texts_pass, condition_quoted_texts, CallText, FinishText, StartText, SelectFrom}
use Rattle.sql_builder.specs.{SelectValues, InsertInto, UpdateTable, DeleteFrom, Sql, Query, QueryValues, Subquery, SubqueryAs, Cond, SetFields, clauses}
use Rattle.sql_builder.specs.{start_fields, call_raw_texts, finish_raw_texts, start_raw_texts, not_text, condition_pieces, until, are_fit, has_fit_fragments}
use Rattle.sql_builder.specs.{begins_union, encloses_fields, has_balanced_fragments, has_fit_conditions, has_fit_texts, own, own_tokens, is_fit}
use Rattle.sql_builder.specs.{FitTextsMakeBalancedFragments, FitTextsMakeFitConditions, FitTextsMakeFitFragments, Section, concat_sections, insert_sections}
use Rattle.sql_builder.specs.{is_unenclosed, comma_list, in_brackets, unless_error, Piece, fixed_piece, quoted_piece, raw_piece}
use Rattle.sql_builder.proofs.conditions.{condition-preserved}
use Rattle.sql_builder.proofs.fragments.PropertyLemmas.{all-whatever, calls-whatever, whatever, Each, PreservedByCalls, listed, neutral-append}
use Rattle.sql_builder.proofs.fragments.PropertyLemmas.{neutral-brackets, neutral-none, neutral-raw, PreservedByWords, by_append}
use Rattle.sql_builder.proofs.Imports.{◌≡◌, refl, sym, ◌∙◌, ap, subst, ℕ, suc, ℤ, Bool, true, false, not, ◌&&◌, List, [], ◌∷◌, ◌++◌, Option, None, Some, IfOk}
use Rattle.sql_builder.proofs.Imports.{map, pos, codes, IsTrue, list_all, and_parts, and_from, false≢true, balanced, has_clause_word, is_clause_word, Token}
use Rattle.sql_builder.proofs.Imports.{tokens, SqlBuilderError, at_end, has_top_level-is, is_balanced, is_balanced-is, is_zero, Clauses, Pieces, list_all-map}
use Rattle.sql_builder.specs.Pieces as printed
use Rattle.sql_builder.proofs.tokens.{is_even-append, at_end-append, has_clause}
use Rattle.sql_builder.proofs.lists.{map-all, tested-all}
use Rattle.sql_builder.proofs.fragments.ClauseFacts.{PartsAre}
use Rattle.sql_builder.proofs.fragments.PreservationLemmas.{clauses-preserved}
use Rattle.sql_builder.proofs.reading.{are_fit-is, are_fit_at, even-ends, or_so, Split, bare_query-split, bare_values-split, sql-split, PreservedByReading}
use Rattle.sql_builder.proofs.reading.{laid-layout, plain-split, AllOpen, Neutral, Opens, section_pieces, sections-front, until-after, ending-semicolon, layout}
use Rattle.sql_builder.proofs.reading.ClauseWordLemmas as own_words
use Rattle.sql_builder.proofs.fragments.PassLemmas.{printed-passes, calls-enclosed, weaker-texts}
use Rattle.sql_builder.proofs.pieces.{inside-layout, insert-laid, statement-laid}
use Rattle.sql_builder.specs.declared.clauses.Kind.TheVariants as kind
use Rattle.sql_builder.proofs.fragments.NeutralLemmas.{InsideParts, clauses-inside}

fit-both : (l : ℤ) (x y : Pieces) → are_fit_at l x ≡ true → are_fit_at (at_end l (own x)) y ≡ true → are_fit_at l (x ++ y) ≡ true
fit-both l [] y one other = other
fit-both l (piece ∷ x) y one other =
    let both = and_parts (own_words.is_fit_at l piece) (are_fit_at (at_end l (own_tokens piece)) x) one in
    and_from _ _ both.0 (fit-both (at_end l (own_tokens piece)) x y both.1
    (subst (λ k. are_fit_at k y ≡ true) (at_end-append l (own_tokens piece) (own x)) other))

-- fit from each depth that `at` gives
pub record FitAt (at : ℕ → ℕ) (ps : Pieces) : Type 0 where
  pub neutral : Neutral ps
  pub fits : (n : ℕ) → are_fit_at (pos (at n)) ps ≡ true

-- fit anywhere, and fit between brackets
abbrev pub Fit : Pieces → Type 0
Fit ps = FitAt (λ n. n) ps

abbrev pub Inner : Pieces → Type 0
Inner ps = FitAt suc ps

pub fit-joins : (at : ℕ → ℕ) → PreservedByWords (FitAt at) (FitAt at)
fit-joins at =
    by_append (record { neutral = neutral-none; fits = λ n. refl })
    (λ x y one other. record {
      neutral = neutral-append x y one.neutral other.neutral;
      fits = λ n. fit-both (pos (at n)) x y (one.fits n) (subst (λ l. are_fit_at l y ≡ true) (sym (even-ends (at n) (own x) one.neutral.even)) (other.fits n));
    })
    (λ words neutral. record { neutral = neutral; fits = λ n. refl })

balanced_tokens : (text : List ℕ) → balanced text ≡ true → is_balanced (tokens text) ≡ true
balanced_tokens text h = sym (is_balanced-is (tokens text)) ∙ h

without_clause_tokens : (text : List ℕ) → not (has_clause_word text) ≡ true → not (has_clause (tokens text)) ≡ true
without_clause_tokens text h = (λ i. not (sym (has_top_level-is is_clause_word (tokens text)) i)) ∙ h

bare-at : (n : ℕ) (text : List ℕ) → is_fit (Bare text) ≡ true → own_words.is_fit_at (pos n) (printed.Raw text) ≡ true
bare-at n text h =
    let both = and_parts (balanced text) (not (has_clause_word text)) h in
    and_from _ _ (balanced_tokens text both.0) (or_so (not (is_zero (pos n))) _ (without_clause_tokens text both.1))

inner-at : (n : ℕ) (text : List ℕ) → balanced text ≡ true → own_words.is_fit_at (pos (suc n)) (printed.Raw text) ≡ true
inner-at n text h = and_from _ _ (balanced_tokens text h) refl

inner-text : (text : List ℕ) → balanced text ≡ true → Inner (raw_piece text)
inner-text text h = record { neutral = neutral-raw text; fits = λ n. and_from _ _ (inner-at n text h) refl }

inner-all : (values : List (List ℕ)) → list_all is_fit (map Enclosed values) ≡ true → Each Inner (map raw_piece values)
inner-all values all = tested-all Inner raw_piece balanced inner-text values (sym (list_all-map is_fit Enclosed values) ∙ all)

quoted-all : (values : List (List ℕ)) → Each Inner (map quoted_piece values)
quoted-all values = map-all Inner quoted_piece (λ value. record { neutral = record { even = refl; no_word = refl }; fits = λ n. refl }) values

-- brackets make fit what is fit between brackets
enclosed : (x : Pieces) → Inner x → Fit (in_brackets fixed_piece x)
enclosed x inner = record { neutral = neutral-brackets x inner.neutral; fits = λ n. fit-both (pos (suc n)) x (fixed_piece (codes ")")) (inner.fits n) refl }

in-enclosed : (negated : Bool) (x : Pieces) → Inner x → Fit (fixed_piece (not_text negated ++ codes " IN (") ++ (x ++ fixed_piece (codes ")")))
in-enclosed true x inner = let made = enclosed x inner in
    record { neutral = record { even = made.neutral.even; no_word = made.neutral.no_word }; fits = made.fits }
in-enclosed false x inner = let made = enclosed x inner in
    record { neutral = record { even = made.neutral.even; no_word = made.neutral.no_word }; fits = made.fits }

fit-preserved : PreservedByCalls false is_fit whatever Fit Fit Fit Neutral
fit-preserved = record {
  joins = fit-joins (λ n. n);
  bare = λ text h. record { neutral = neutral-raw text; fits = λ n. and_from _ _ (bare-at n text h) refl };
  quoted = λ text h. record { neutral = record { even = refl; no_word = refl }; fits = λ n. refl };
  row = λ values all. enclosed (comma_list fixed_piece (map raw_piece values)) (listed (fit-joins suc) (map raw_piece values) (inner-all values all));
  in_list = λ negated values all. in-enclosed negated (comma_list fixed_piece (map raw_piece values))
      (listed (fit-joins suc) (map raw_piece values) (inner-all values all));
  in_quoted = λ negated values h. in-enclosed negated (comma_list fixed_piece (map quoted_piece values))
      (listed (fit-joins suc) (map quoted_piece values) (quoted-all values));
  in_query = λ negated query h. in-enclosed negated (raw_piece query) (inner-text query h);
  field = λ field h. record { neutral = neutral-raw field; fits = λ n. and_from _ _ (bare-at n field h) refl };
  count = λ field h. record { neutral = record { even = refl; no_word = refl }; fits = λ n. and_from _ _ (inner-at n field h) refl };
  count_as = λ field name h k. record {
    neutral = record { even = refl; no_word = refl };
    fits =
        λ n. and_from _ _ (inner-at n field h) (and_from _ _ (bare-at n name k) refl);
  };
  union = λ query h. neutral-raw query;
}

-- the same, of an INSERT
pub insert_fit-preserved : PreservedByCalls true is_fit whatever Fit Fit Inner Neutral
insert_fit-preserved = record {
  joins = fit-preserved.joins;
  bare = fit-preserved.bare;
  quoted = fit-preserved.quoted;
  row = fit-preserved.row;
  in_list = fit-preserved.in_list;
  in_quoted = fit-preserved.in_quoted;
  in_query = fit-preserved.in_query;
  field = inner-text;
  count = λ field h. record { neutral = record { even = refl; no_word = refl }; fits = λ n. and_from _ _ (inner-at (suc n) field h) refl };
  count_as = λ field name h k. record {
    neutral = record { even = refl; no_word = refl };
    fits =
        λ n. and_from _ _ (inner-at (suc n) field h) (and_from _ _ (inner-at n name k) refl);
  };
  union = fit-preserved.union;
}

inner-of : (x : Pieces) → Fit x → Inner x
inner-of x fit = record { neutral = fit.neutral; fits = λ n. fit.fits (suc n) }

target : (x : Pieces) → Inner x → Fit (fixed_piece (codes " (") ++ (x ++ fixed_piece (codes ")")))
target x inner = let made = enclosed x inner in record { neutral = record { even = made.neutral.even; no_word = made.neutral.no_word }; fits = made.fits }

pub fit-layout : PreservedByReading Fit
fit-layout = laid-layout (fit-joins (λ n. n)) (λ x fit. enclosed x (inner-of x fit)) (λ x fit. target x (inner-of x fit)) (λ x fit. fit.neutral)

pub fields-fit : (fields : List Pieces) → Each Inner fields → Fit (fixed_piece (codes " (") ++ (comma_list fixed_piece fields ++ fixed_piece (codes ")")))
fields-fit fields all = target (comma_list fixed_piece fields) (listed (fit-joins suc) fields all)

-- ---- what is printed up to the first UNION

section-ends : (s : Section Piece) → Opens Fit s → at_end (pos 0) (own (section_pieces s)) ≡ pos 0
section-ends s opens = even-ends 0 (own (section_pieces s)) (is_even-append (tokens s.opening) (own s.body) opens.front.even opens.neutral.even)

sections-fit : (sections : List (Section Piece)) → AllOpen Fit sections → are_fit_at (pos 0) (concat_sections fixed_piece sections) ≡ true
sections-fit [] all = refl
sections-fit (s ∷ sections) all =
    let rest = concat_sections fixed_piece sections in
    fit-both (pos 0) (section_pieces s) rest
    (subst (λ l. are_fit_at l s.body ≡ true) (sym (even-ends 0 (tokens s.opening) all.0.front.even)) (all.0.body.fits 0))
    (subst (λ l. are_fit_at l rest ≡ true) (sym (section-ends s all.0)) (sections-fit sections all.1))

split-fits : {printed : Pieces} {bodies : List (List Token)} → Split Fit printed bodies → has_fit_fragments printed ≡ true
split-fits split =
    let front = concat_sections fixed_piece split.front in
    ap has_fit_fragments split.is
    ∙ ap are_fit (until-after front split.rest (sections-front Fit split.front split.laid.opens).no_union)
    ∙ are_fit-is (front ++ until begins_union split.rest)
    ∙ fit-both (pos 0) front (until begins_union split.rest) (sections-fit split.front split.laid.opens) (split.ending.until_fits (at_end (pos 0) (own front)))

layout-fits : (finish : FinishText) (r : Clauses Pieces) → PartsAre Fit Fit Neutral r → InsideParts r → is_unenclosed finish ≡ true
    → has_fit_fragments (layout finish r) ≡ true
layout-fits Sql r parts inside_parts bare = split-fits (sql-split fit-layout r parts inside_parts)
layout-fits Query r parts inside_parts bare = split-fits (bare_query-split fit-layout r parts inside_parts)
layout-fits QueryValues r parts inside_parts bare = split-fits (bare_values-split fit-layout r parts inside_parts)
layout-fits Subquery r parts inside_parts bare = absurd (false≢true bare)
layout-fits (SubqueryAs name) r parts inside_parts bare = absurd (false≢true bare)

-- ---- all that is printed is balanced

fit-balanced : (raw : RawText) → is_fit raw ≡ true → balanced (raw_text raw) ≡ true
fit-balanced (Bare text) h = (and_parts (balanced text) (not (has_clause_word text)) h).0
fit-balanced (Enclosed text) h = h

pub fit_texts_balanced : (start : StartText) (calls : List CallText) (finish : FinishText)
    → has_fit_texts start calls finish ≡ true → texts_pass balanced start calls finish ≡ true
fit_texts_balanced start calls finish all =
    let enclosed = encloses_fields start finish in
    ap (λ b. (all_pass balanced (start_raw_texts start) && b) && all_pass balanced (finish_raw_texts finish)) (sym (calls-enclosed balanced enclosed calls))
    ∙ weaker-texts is_fit (λ raw. balanced (raw_text raw)) fit-balanced enclosed start calls finish all

-- ---- what raw texts make

conditions-fit : (enclosed : Bool) (calls : List CallText) → list_all (λ c. list_all is_fit (call_raw_texts enclosed c)) calls ≡ true
    → has_fit_conditions calls ≡ true
conditions-fit enclosed [] all = refl
conditions-fit enclosed (c ∷ calls) all =
    let both = and_parts (list_all is_fit (call_raw_texts enclosed c)) (list_all (λ (d : CallText). list_all is_fit (call_raw_texts enclosed d)) calls) all in
    by c both.0 (conditions-fit enclosed calls both.1)
  where
    by : (c : CallText) → list_all is_fit (call_raw_texts enclosed c) ≡ true → has_fit_conditions calls ≡ true → has_fit_conditions (c ∷ calls) ≡ true
    by (Cond family condition) here rest =
        and_from _ _ (are_fit-is (condition_pieces condition) ∙ (condition-preserved fit-preserved condition
        (all-whatever (condition_quoted_texts condition)) here).fits 0) rest
    by _ here rest = rest

-- the start's fields, which an INSERT doesn't have
first-fields : (start : StartText) (finish : FinishText) → list_all is_fit (start_raw_texts start) ≡ true
    → list_all is_fit (call_raw_texts (encloses_fields start finish) (SetFields (start_fields start))) ≡ true
first-fields (SelectFrom table) finish all = refl
first-fields (SelectValues values) finish all = all
first-fields (InsertInto table) finish all = refl
first-fields (UpdateTable table) finish all = refl
first-fields (DeleteFrom table) finish all = refl

module _ (start : StartText) (calls : List CallText) (finish : FinishText) (all : has_fit_texts start calls finish ≡ true) where
  abbrev calls_fit : Bool
  calls_fit = list_all (λ (c : CallText). list_all is_fit (call_raw_texts (encloses_fields start finish) c)) calls

  fit_parts : (list_all is_fit (start_raw_texts start) ≡ true) × (calls_fit ≡ true) × (list_all is_fit (finish_raw_texts finish) ≡ true)
  fit_parts =
      let both = and_parts (list_all is_fit (start_raw_texts start) && calls_fit) (list_all is_fit (finish_raw_texts finish)) all in
      let first = and_parts (list_all is_fit (start_raw_texts start)) calls_fit both.0 in
      (first.0, first.1, both.1)

-- fields that nothing encloses
bare-fit : (start : StartText) (calls : List CallText) (finish : FinishText) → encloses_fields start finish ≡ false → has_fit_texts start calls finish ≡ true
    → is_unenclosed finish ≡ true
    → has_fit_fragments (layout finish (clauses start calls)) ≡ true
bare-fit start calls finish plain all bare =
    let facts = fit_parts start calls finish all in
    layout-fits finish (clauses start calls)
    (clauses-preserved fit-preserved start calls (calls-whatever calls) facts.0
    (ap (λ (b : Bool). list_all is_fit (call_raw_texts b (SetFields (start_fields start)))) (sym plain) ∙ first-fields start finish facts.0)
    (ap (λ (b : Bool). list_all (λ (c : CallText). list_all is_fit (call_raw_texts b c)) calls) (sym plain) ∙ facts.1))
    (clauses-inside start calls) bare

all-fit : (start : StartText) (calls : List CallText) (finish : FinishText) → has_fit_texts start calls finish ≡ true → is_unenclosed finish ≡ true
    → has_fit_fragments (layout finish (clauses start calls)) ≡ true
all-fit (SelectFrom table) calls finish all bare = bare-fit (SelectFrom table) calls finish refl all bare
all-fit (SelectValues values) calls finish all bare = bare-fit (SelectValues values) calls finish refl all bare
all-fit (UpdateTable table) calls finish all bare = bare-fit (UpdateTable table) calls finish refl all bare
all-fit (DeleteFrom table) calls finish all bare = bare-fit (DeleteFrom table) calls finish refl all bare
all-fit (InsertInto table) calls Sql all bare =
    let start = InsertInto table in
    let facts = fit_parts start calls Sql all in
    let parts = clauses-preserved insert_fit-preserved start calls (calls-whatever calls) facts.0 refl facts.1 in
    let r = clauses start calls in
    split-fits (plain-split (insert_sections fixed_piece r.query r) (fixed_piece (codes ";")) (insert-laid fit-layout r parts fields-fit r.query parts.query)
    (statement-laid inside-layout kind.InsertInto r (clauses-inside start calls)) ending-semicolon)
all-fit (InsertInto table) calls Query all bare = bare-fit (InsertInto table) calls Query refl all bare
all-fit (InsertInto table) calls QueryValues all bare = bare-fit (InsertInto table) calls QueryValues refl all bare
all-fit (InsertInto table) calls Subquery all bare = absurd (false≢true bare)
all-fit (InsertInto table) calls (SubqueryAs name) all bare = absurd (false≢true bare)

pub unless : (error : Option SqlBuilderError) (printed : Pieces) (test : Pieces → Bool) → test printed ≡ true
    → IfOk (unless_error error printed) (λ ps. IsTrue (test ps))
unless None printed test h = h
unless (Some error) printed test h = tt

pub fit_fragments : FitTextsMakeFitFragments
fit_fragments start calls finish bare all = unless _ (layout finish (clauses start calls)) has_fit_fragments (all-fit start calls finish all bare)

pub fit_conditions : FitTextsMakeFitConditions
fit_conditions start calls finish all = conditions-fit (encloses_fields start finish) calls (fit_parts start calls finish all).1

pub balanced_fragments : FitTextsMakeBalancedFragments
balanced_fragments start calls finish h =
    unless _ (layout finish (clauses start calls)) has_balanced_fragments
    (printed-passes balanced whatever start calls finish (calls-whatever calls) (fit_texts_balanced start calls finish h))
