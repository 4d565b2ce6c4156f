-- The truth of a WHERE, where each condition is printed.
use Rattle.sql_typed.proofs.Imports.{◌≡◌, ◌∙◌, ◌⊎◌, inl, inr, ap, refl, sym, true, List, [], IfOk, IsTrue, codes, map, CallText, FinishText, Sql, Query, QueryValues, Subquery, SubqueryAs, StartText}
use Rattle.sql_typed.proofs.Imports.{◌++◌, ◌∷◌, append-nil, None, Made, adding, condition_in, filter_map, nullary_call, added_call}
use Rattle.sql_typed.proofs.Imports.{SelectFrom, SelectValues, InsertInto, UpdateTable, DeleteFrom, clauses, kind_of, false≢true, has_fit_texts, fit_conditions, fit_fragments, statement, statements_have_truth, truth}
use Rattle.sql_builder.specs.Meaning.{HasFitFragments, HasTruthOf, condition_groups, prints_where, where_truths}
use Rattle.sql_builder.specs.RawFragments.{has_fit_fragments}
use Rattle.sql_builder.specs.Reading.{clause_bodies}
use Rattle.sql_builder.specs.Shape.{cond_tokens}
use Rattle.sql_builder.specs.Calls.{binary_call, conditions_of, opens_group, unary_call}
use Rattle.sql_builder.specs.Filters.{cut}
use Rattle.sql_builder.specs.declared.clauses.Kind.{Kind}
use Rattle.sql_builder.specs.declared.steps.BinaryClause.{BinaryClause}
use Rattle.sql_builder.specs.declared.steps.BinaryClause.TheVariants as binary
use Rattle.sql_builder.specs.declared.steps.NullaryClause.{NullaryClause}
use Rattle.sql_builder.specs.declared.steps.NullaryClause.TheVariants as nullary
use Rattle.sql_builder.specs.declared.steps.UnaryClause.{UnaryClause}
use Rattle.sql_builder.specs.declared.steps.UnaryClause.TheVariants as unary
use Rattle.sql_builder.proofs.fragments.NeutralLemmas.{clauses-neutral, clauses-inside}
use Rattle.sql_builder.proofs.pieces.LayoutPropertyLemmas.{kind_bodies}
use Rattle.sql_builder.proofs.reading.LayoutLemmas.{neutral-layout, split-wheres, sql-split}
use Rattle.sql_builder.proofs.reading.ReadBackLemmas.{layout-reads}
use Rattle.sql_builder.proofs.statements.StatementLawLemmas.{of_pieces}
use Rattle.std.proofs.lemmas.List.Elements.{filter_map-append}
use Rattle.std.specs.List.{cons_option}
use Rattle.sql_typed.specs.Fits.{PrintsConditions}
use Rattle.sql_typed.specs.Printed.{shows_where}
use Rattle.sql_typed.specs.AddedCalls.{prints_added}
use Rattle.sql_typed.specs.declared.statement.AddedCall.{AddedCall}
use Rattle.sql_typed.specs.declared.statement.AddedCall.TheVariants as added

module _ (calls : List CallText) where
  abbrev HasItsTruth : StartText → FinishText → Type 0
  HasItsTruth start finish = IfOk (statement start calls finish) (λ text. HasTruthOf (condition_groups calls) text)

  -- neither a WHERE nor a condition
  neither : (start : StartText) → kind_bodies (kind_of start) (clauses start calls) ≡ [] → condition_groups calls ≡ [] → HasFitFragments start calls Sql
      → HasItsTruth start Sql
  neither start bare none =
      let its = clauses start calls in
      let neutral = clauses-neutral start calls in
      let inside = clauses-inside start calls in
      of_pieces start calls Sql (λ printed. IsTrue (has_fit_fragments printed)) (λ printed text. HasTruthOf (condition_groups calls) text)
      (λ fit facts.
      ap (λ parsed. map (truth facts) (clause_bodies (codes "WHERE") parsed)) (layout-reads Sql its neutral inside refl fit)
      ∙ ap (map (truth facts)) (split-wheres (sql-split neutral-layout its neutral inside) ∙ bare)
      ∙ ap (where_truths facts) (sym none))

  either : (start : StartText) → HasFitFragments start calls Sql → (prints_where Sql (kind_of start) ≡ true → HasItsTruth start Sql)
      → condition_groups calls ≡ [] → HasItsTruth start Sql
  either (SelectFrom table) fit holds none = holds refl
  either (SelectValues values) fit holds none = neither (SelectValues values) refl none fit
  either (InsertInto table) fit holds none = neither (InsertInto table) refl none fit
  either (UpdateTable table) fit holds none = holds refl
  either (DeleteFrom table) fit holds none = holds refl

  -- where there is a WHERE, or no condition
  pub has_its_truth : (start : StartText) (finish : FinishText) → shows_where finish ≡ true
      → (prints_where Sql (kind_of start) ≡ true) ⊎ (condition_groups calls ≡ []) → has_fit_texts start calls finish ≡ true → HasItsTruth start finish
  has_its_truth start Sql shows printed texts = by printed
    where
      fit : HasFitFragments start calls Sql
      fit = fit_fragments start calls Sql refl texts

      holds : prints_where Sql (kind_of start) ≡ true → HasItsTruth start Sql
      holds prints = statements_have_truth start calls Sql prints fit (fit_conditions start calls Sql texts)

      by : (prints_where Sql (kind_of start) ≡ true) ⊎ (condition_groups calls ≡ []) → HasItsTruth start Sql
      by (inl prints) = holds prints
      by (inr none) = either start fit holds none
  has_its_truth start Query shows printed texts =
      statements_have_truth start calls Query refl (fit_fragments start calls Query refl texts) (fit_conditions start calls Query texts)
  has_its_truth start QueryValues shows printed texts = absurd (false≢true shows)
  has_its_truth start Subquery shows printed texts = absurd (false≢true shows)
  has_its_truth start (SubqueryAs name) shows printed texts = absurd (false≢true shows)

-- ---- one more call

-- a statement of this kind has a WHERE, or the call adds no condition
abbrev pub Prints : Kind → CallText → Type 0
Prints kind c = (prints_where Sql kind ≡ true) ⊎ (condition_in c ≡ None)

pub added_prints : (kind : Kind) (new : AddedCall) → prints_added kind new ≡ true → Prints kind (added_call new)
added_prints kind (added.Condition family condition) prints = inl prints
added_prints kind (added.Row values) prints = inr refl
added_prints kind (added.Nullary clause) prints = inr (by clause)
  where
    by : (clause : NullaryClause) → condition_in (nullary_call clause) ≡ None
    by nullary.Natural = refl
    by nullary.Left = refl
    by nullary.LeftOuter = refl
    by nullary.Right = refl
    by nullary.RightOuter = refl
    by nullary.Inner = refl
    by nullary.Cross = refl
    by nullary.Distinct = refl
    by nullary.ReturningId = refl
added_prints kind (added.Binary clause first second) prints = inr (by clause)
  where
    by : (clause : BinaryClause) → condition_in (binary_call clause first.now second.now) ≡ None
    by binary.OnEq = refl
    by binary.CountAs = refl
    by binary.SetTo = refl
    by binary.SetStr = refl
added_prints kind (added.Unary clause text) prints = inr (by clause)
  where
    by : (clause : UnaryClause) → condition_in (unary_call clause text.now) ≡ None
    by unary.AndTable = refl
    by unary.Join = refl
    by unary.On = refl
    by unary.Field = refl
    by unary.SetField = refl
    by unary.Count = refl
    by unary.Select = refl
    by unary.Returning = refl
    by unary.GroupBy = refl
    by unary.Having = refl
    by unary.Union = refl
    by unary.UnionAll = refl
    by unary.OrderAsc = refl
    by unary.OrderDesc = refl
    by unary.Limit = refl
    by unary.Offset = refl

-- a call that adds no condition leaves the groups as they are
same_groups : (calls : List CallText) (c : CallText) → condition_in c ≡ None → condition_groups (calls ++ c ∷ []) ≡ condition_groups calls
same_groups calls c none = ap (λ conditions. map (λ group. map cond_tokens (group.0 ∷ group.1)) (map conditions_of (cut opens_group conditions)))
    (filter_map-append condition_in calls (c ∷ []) ∙ ap (λ condition. filter_map condition_in calls ++ cons_option condition []) none
    ∙ append-nil (filter_map condition_in calls))

pub printed_more : (made : Made) (c : CallText) → Prints (kind_of made.start) c → PrintsConditions made → PrintsConditions (adding c made)
printed_more made c (inl prints) before = inl prints
printed_more made c (inr none) (inl prints) = inl prints
printed_more made c (inr none) (inr nothing) = inr (same_groups made.calls c none ∙ nothing)
