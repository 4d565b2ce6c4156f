-- Each fragment that is printed passes a test that each raw text passes.
use Rattle.sql_builder.proofs.Imports.{◌≡◌, refl, ◌∙◌, sym, ℕ, Bool, true, false, List, ◌++◌, map, codes, ◌&&◌, [], ◌∷◌, ap, list_all, and_parts, and_from}
use Rattle.sql_builder.proofs.Imports.{list_all-map, Clauses, Token, Pieces}
use Rattle.sql_builder.specs.{CallText, FinishText, StartText, SelectFrom, SelectValues, InsertInto, UpdateTable, DeleteFrom, Sql, Query, QueryValues, Subquery}
use Rattle.sql_builder.specs.{SubqueryAs, SetFields, clauses, start_fields, call_raw_texts, field_text, finish_raw_texts, start_raw_texts, not_text, RawText}
use Rattle.sql_builder.specs.{Enclosed, all_pass, raw_text, call_passes, texts_pass, call_quoted_texts, Section, concat_sections, query, statement_sections}
use Rattle.sql_builder.specs.{comma_list, Piece, fixed_piece, quoted_piece, raw_piece}
use Rattle.sql_builder.specs.Calls as call
use Rattle.sql_builder.proofs.fragments.ClauseFacts.{PartsAre}
use Rattle.sql_builder.proofs.pieces.{PreservedByLayout, query-laid, statement-laid, values-laid}
use Rattle.sql_builder.proofs.fragments.PreservationLemmas.{clauses-preserved}
use Rattle.sql_builder.proofs.reading.{layout}
use Rattle.sql_builder.proofs.fragments.PropertyLemmas.{Passes, PreservedByCalls, listed, passes-append, passes-joins, quoteds-pass, quoted-passes, raw-passes}
use Rattle.sql_builder.proofs.fragments.PropertyLemmas.{raws-pass, within}
use Rattle.sql_builder.proofs.lists.{all-weaker, each-same}

module _ (test fine : List ℕ → Bool) where
  -- ---- what calls make

  abbrev raw_texts_pass : RawText → Bool
  raw_texts_pass h = test (raw_text h)

  in-list : (words : List ℕ) (values : List (List ℕ)) → list_all raw_texts_pass (map Enclosed values) ≡ true
      → Passes test fine (fixed_piece words ++ (comma_list fixed_piece (map raw_piece values) ++ fixed_piece (codes ")")))
  in-list words values all =
      within test fine words (comma_list fixed_piece (map raw_piece values)) (codes ")")
      (listed (passes-joins test fine) (map raw_piece values)
      (raws-pass test fine values (sym (list_all-map raw_texts_pass Enclosed values) ∙ all)))

  passes-preserved : PreservedByCalls false raw_texts_pass fine (Passes test fine) (Passes test fine) (Passes test fine) (Passes test fine)
  passes-preserved = record {
    joins = passes-joins test fine;
    bare = raw-passes test fine;
    quoted = quoted-passes test fine;
    row = λ values all. in-list (codes "(") values all;
    in_list = λ negated values all. in-list (not_text negated ++ codes " IN (") values all;
    in_quoted = λ negated values all.
        within test fine (not_text negated ++ codes " IN (") (comma_list fixed_piece (map quoted_piece values)) (codes ")")
        (listed (passes-joins test fine) (map quoted_piece values) (quoteds-pass test fine values all));
    in_query = λ negated query h. within test fine (not_text negated ++ codes " IN (") (raw_piece query) (codes ")") (raw-passes test fine query h);
    field = raw-passes test fine;
    count = λ field h. within test fine (codes "COUNT(") (raw_piece field) (codes ")") (raw-passes test fine field h);
    count_as = λ field name h k. and_from _ _ h (and_from _ _ k refl);
    union = raw-passes test fine;
  }

  -- ---- what is printed of clauses

  abbrev SectionsPass : List (Section Piece) → List (List Token) → Type 0
  SectionsPass sections wheres = Passes test fine (concat_sections fixed_piece sections)

  passes-layout : PreservedByLayout (Passes test fine) (Passes test fine) (Passes test fine) SectionsPass SectionsPass
  passes-layout = record {
    joins = passes-joins test fine;
    brackets = λ x h. within test fine (codes "(") x (codes ")") h;
    target = λ x h. within test fine (codes " (") x (codes ")") h;
    none = refl;
    further = λ words body more wheres opens begins h rest. passes-append test fine body (concat_sections fixed_piece more) h rest;
    where_section = λ body more h rest. passes-append test fine body (concat_sections fixed_piece more) h rest;
    union = λ all body more h rest. passes-append test fine body (concat_sections fixed_piece more) h rest;
    first = λ words body more wheres opens h rest. passes-append test fine body (concat_sections fixed_piece more) h rest;
  }

  module _ (r : Clauses Pieces) (parts : PartsAre (Passes test fine) (Passes test fine) (Passes test fine) r) where
    query-passes : Passes test fine (query fixed_piece r)
    query-passes = query-laid passes-layout r parts

    pub layout-passes : (finish : FinishText) → all_pass test (finish_raw_texts finish) ≡ true → Passes test fine (layout finish r)
    layout-passes Sql h =
        passes-append test fine (concat_sections fixed_piece (statement_sections fixed_piece r.kind r)) (fixed_piece (codes ";"))
        (statement-laid passes-layout r.kind r parts) refl
    layout-passes Query h = query-passes
    layout-passes QueryValues h = values-laid passes-layout r parts
    layout-passes Subquery h = within test fine (codes "(") (query fixed_piece r) (codes ")") query-passes
    layout-passes (SubqueryAs name) h =
        passes-append test fine (query fixed_piece r) (fixed_piece (codes ") AS ") ++ raw_piece name) query-passes
        (raw-passes test fine name (and_parts (test name) true h).0)

  -- ---- what is printed of a list of calls

  -- the start's fields, as calls add them
  first-fields : (start : StartText) → all_pass test (start_raw_texts start) ≡ true → call_passes test (SetFields (start_fields start)) ≡ true
  first-fields (SelectFrom table) all = refl
  first-fields (SelectValues values) all = all
  first-fields (InsertInto table) all = refl
  first-fields (UpdateTable table) all = refl
  first-fields (DeleteFrom table) all = refl

  pub printed-passes : (start : StartText) (calls : List CallText) (finish : FinishText)
      → list_all (λ c. list_all fine (call_quoted_texts c)) calls ≡ true → texts_pass test start calls finish ≡ true
      → Passes test fine (layout finish (clauses start calls))
  printed-passes start calls finish quotes all =
      let both = and_parts (all_pass test (start_raw_texts start) && list_all (call_passes test) calls) (all_pass test (finish_raw_texts finish)) all in
      let first = and_parts (all_pass test (start_raw_texts start)) (list_all (call_passes test) calls) both.0 in
      layout-passes (clauses start calls) (clauses-preserved passes-preserved start calls quotes first.0 (first-fields start first.0) first.1) finish both.1

-- ---- tests of all texts

-- each raw text passes, where fields are enclosed or not
abbrev texts_ok : (RawText → Bool) → Bool → StartText → List CallText → FinishText → Bool
texts_ok ok enclosed start calls finish =
    list_all ok (start_raw_texts start) && list_all (λ c. list_all ok (call_raw_texts enclosed c)) calls && list_all ok (finish_raw_texts finish)

-- a test that another one implies
pub weaker-texts : (ok other : RawText → Bool) → ((raw : RawText) → ok raw ≡ true → other raw ≡ true) → (enclosed : Bool) (start : StartText)
    (calls : List CallText) (finish : FinishText) → texts_ok ok enclosed start calls finish ≡ true → texts_ok other enclosed start calls finish ≡ true
weaker-texts ok other each enclosed start calls finish all =
    let weaker = all-weaker ok other each in
    let both = and_parts (list_all ok (start_raw_texts start) && list_all (λ c. list_all ok (call_raw_texts enclosed c)) calls) _ all in
    let first = and_parts (list_all ok (start_raw_texts start)) _ both.0 in
    and_from _ _
    (and_from _ _ (weaker (start_raw_texts start) first.0)
    (all-weaker (λ (c : CallText). list_all ok (call_raw_texts enclosed c)) (λ (c : CallText). list_all other (call_raw_texts enclosed c))
    (λ c. weaker (call_raw_texts enclosed c)) calls first.1))
    (weaker (finish_raw_texts finish) both.1)

-- whether a field is enclosed makes no difference to a test of texts alone
module _ (test : List ℕ → Bool) where
  fields-enclosed : (enclosed : Bool) (fields : List (List ℕ)) → all_pass test (map (field_text enclosed) fields) ≡ all_pass test (map (field_text false) fields)
  fields-enclosed enclosed [] = refl
  fields-enclosed true (field ∷ fields) = ap (λ b. test field && b) (fields-enclosed true fields)
  fields-enclosed false (field ∷ fields) = refl

  call-enclosed : (enclosed : Bool) (c : CallText) → all_pass test (call_raw_texts enclosed c) ≡ call_passes test c
  call-enclosed enclosed (call.Fields fields) = fields-enclosed enclosed fields
  call-enclosed enclosed (call.SetFields fields) = fields-enclosed enclosed fields
  call-enclosed enclosed (call.Field field) = fields-enclosed enclosed (field ∷ [])
  call-enclosed enclosed (call.SetField field) = fields-enclosed enclosed (field ∷ [])
  call-enclosed enclosed (call.CountAs field name) = ap (λ b. test field && b) (fields-enclosed enclosed (name ∷ []))
  call-enclosed enclosed c = refl

  pub calls-enclosed : (enclosed : Bool) (calls : List CallText)
      → list_all (λ c. all_pass test (call_raw_texts enclosed c)) calls ≡ list_all (call_passes test) calls
  calls-enclosed enclosed calls = each-same (λ c. all_pass test (call_raw_texts enclosed c)) (call_passes test) (call-enclosed enclosed) calls
