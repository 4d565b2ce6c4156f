-- Queries whose fragments are balanced serve as fragments.
use Rattle.sql_builder.proofs.Imports.{◌≡◌, refl, sym, ◌∙◌, ap, false, true, not, Bool, List, [], ◌∷◌, ◌++◌, ℕ, codes, append_assoc, list_all-append, and_parts}
use Rattle.sql_builder.proofs.Imports.{and_from, not_from_false, Token, Word, Symbol, tokens, is_empty, Clauses, Pieces, is_balanced, is_even, is_operand}
use Rattle.sql_builder.proofs.Imports.{has_top_level-is, is_balanced-is, is_operand-is, is_clause_word}
use Rattle.sql_builder.specs.{FinishText, Sql, Query, QueryValues, Subquery, SubqueryAs, query, select_opening, subquery, subquery_as, HasShape, pieces_tokens}
use Rattle.sql_builder.specs.{layout_at, fixed_piece, raw_piece, own, has_balanced_fragments, is_balanced_piece, Nests}
use Rattle.sql_builder.proofs.tokens.{is_even-append, is_even-brackets, is_operand-brackets, no_clause-brackets, has_clause}
use Rattle.sql_builder.proofs.reading.LayoutLemmas.{query-even}
use Rattle.sql_builder.proofs.reading.ClauseWordLemmas.{own-append, shape-even, fragments_closed}
use Rattle.sql_builder.proofs.pieces.{pieces_tokens-brackets}
use Rattle.sql_builder.specs.WhereTokens as where_tokens
use Rattle.sql_builder.proofs.fragments.NeutralLemmas.{NeutralParts}

-- a query has a first token
some-select : (distinct : Bool) (ts : List Token) → not (is_empty (tokens (select_opening distinct) ++ ts)) ≡ true
some-select true ts = refl
some-select false ts = refl

module _ (r : Clauses Pieces) (parts : NeutralParts r) where
  pub query-balanced : has_balanced_fragments (query fixed_piece r) ≡ true → is_balanced (pieces_tokens (query fixed_piece r)) ≡ true
  query-balanced all = and_from _ _ (some-select r.distinct _) (shape-even (query fixed_piece r) all (query-even r parts))

  pub inner-balanced : (name : Pieces) → has_balanced_fragments (query fixed_piece r ++ name) ≡ true → has_balanced_fragments (query fixed_piece r) ≡ true
  inner-balanced name all = (and_parts _ _ (sym (list_all-append is_balanced_piece (query fixed_piece r) name) ∙ all)).0

  subquery-even : has_balanced_fragments (subquery fixed_piece r) ≡ true → is_even (pieces_tokens (query fixed_piece r)) ≡ true
  subquery-even all = shape-even (query fixed_piece r) (inner-balanced (fixed_piece (codes ")")) all) (query-even r parts)

  subquery-operand : has_balanced_fragments (subquery fixed_piece r) ≡ true → is_operand (pieces_tokens (subquery fixed_piece r)) ≡ true
  subquery-operand all = ap is_operand (pieces_tokens-brackets (query fixed_piece r))
      ∙ is_operand-brackets (pieces_tokens (query fixed_piece r)) (subquery-even all)

  subquery-no_clause : has_balanced_fragments (subquery fixed_piece r) ≡ true → has_clause (pieces_tokens (subquery fixed_piece r)) ≡ false
  subquery-no_clause all = ap has_clause (pieces_tokens-brackets (query fixed_piece r))
      ∙ no_clause-brackets (pieces_tokens (query fixed_piece r)) (subquery-even all)

  named-even : (name : List ℕ) → is_even (own (subquery_as fixed_piece (raw_piece name) r)) ≡ true
  unfolding where_tokens.in_brackets
  named-even name =
      ap is_even (ap (λ ts. Symbol 40 ∷ ts) (own-append (query fixed_piece r) (fixed_piece (codes ") AS ") ++ raw_piece name))
      ∙ ap (λ ts. Symbol 40 ∷ ts) (sym (append_assoc (own (query fixed_piece r)) (Symbol 41 ∷ []) (Word (codes "AS") ∷ []))))
      ∙ is_even-append (where_tokens.in_brackets (own (query fixed_piece r))) (Word (codes "AS") ∷ [])
      (is_even-brackets (own (query fixed_piece r)) (query-even r parts)) refl

  named-balanced : (name : List ℕ) → has_balanced_fragments (subquery_as fixed_piece (raw_piece name) r) ≡ true
      → is_balanced (pieces_tokens (subquery_as fixed_piece (raw_piece name) r)) ≡ true
  named-balanced name all = and_from _ _ refl (shape-even (subquery_as fixed_piece (raw_piece name) r) all (named-even name))

  -- what each finish prints
  pub nests : (finish : FinishText) (text : List ℕ) → HasShape (layout_at fixed_piece raw_piece finish r) text
      → Nests finish (layout_at fixed_piece raw_piece finish r) text
  nests Sql text shaped = λ all. refl
  nests Query text shaped = λ all. is_balanced-is (tokens text) ∙ ap is_balanced (shaped (fragments_closed (query fixed_piece r) all)) ∙ query-balanced all
  nests QueryValues text shaped = λ all. refl
  nests Subquery text shaped = λ all.
      let same = shaped (fragments_closed (subquery fixed_piece r) all) in
      and_from _ _ (is_operand-is (tokens text) ∙ ap is_operand same ∙ subquery-operand all)
      (not_from_false _ (has_top_level-is is_clause_word (tokens text) ∙ ap has_clause same ∙ subquery-no_clause all))
  nests (SubqueryAs name) text shaped = λ all. is_balanced-is (tokens text)
      ∙ ap is_balanced (shaped (fragments_closed (subquery_as fixed_piece (raw_piece name) r) all)) ∙ named-balanced name all
