-- A query between brackets serves as a table, with a name behind it too.
use Rattle.sql_builder.proofs.Imports.{◌≡◌, sym, ◌∙◌, ap, false, true, not, List, [], ◌∷◌, ◌++◌, ℕ, codes, append-nil, append_assoc, IsTrue, and_parts}
use Rattle.sql_builder.proofs.Imports.{and_from, false≢true, not-true, not_from_false, or_from, balanced, has_clause_word, is_clause_word, Word, Symbol, tokens}
use Rattle.sql_builder.proofs.Imports.{has_top_level-is, Clauses, Pieces}
use Rattle.sql_builder.specs.{ClauseTexts, FinishText, Sql, Query, QueryValues, Subquery, SubqueryAs, clauses, has_balanced_fragments, is_fit, Bare, byte_units}
use Rattle.sql_builder.specs.{query, subquery_as, HasShape, as_fragments, pieces_tokens, layout_at, NestsAsTable, SubqueriesNestAsTables, fixed_piece}
use Rattle.sql_builder.specs.{pieces_text, raw_piece}
use Rattle.sql_builder.specs.WhereTokens as where_tokens
use Rattle.sql_builder.proofs.tokens.{has_top_level-append, is_even-brackets, no_clause-brackets, has_clause}
use Rattle.sql_builder.proofs.fragments.NeutralLemmas.{NeutralParts, clauses-neutral, raw-neutral}
use Rattle.sql_builder.proofs.pieces.{printed-shaped, subquery_as_shape, pieces_tokens-append}
use Rattle.sql_builder.proofs.reading.NestingLemmas.{inner-balanced, nests}
use Rattle.sql_builder.proofs.reading.LayoutLemmas.{query-even}
use Rattle.sql_builder.proofs.reading.ClauseWordLemmas.{fragments_closed, shape-even}
use Rattle.sql_builder.proofs.reading.ReadBackLemmas.{layout}
use Rattle.sql_builder.proofs.statements.{of_pieces}

module _ (r : Clauses Pieces) (parts : NeutralParts r) where
  -- the query in brackets, AS and the name
  named-tokens : (name : List ℕ)
      → pieces_tokens (subquery_as fixed_piece (raw_piece name) r)
      ≡ where_tokens.in_brackets (pieces_tokens (query fixed_piece r)) ++ Word (codes "AS") ∷ tokens name
  unfolding where_tokens.in_brackets
  named-tokens name =
      ap (λ ts. Symbol 40 ∷ ts)
      (pieces_tokens-append (query fixed_piece r) (fixed_piece (codes ") AS ") ++ raw_piece name)
      ∙ ap (λ ts. pieces_tokens (query fixed_piece r) ++ Symbol 41 ∷ Word (codes "AS") ∷ ts) (append-nil (tokens name))
      ∙ sym (append_assoc (pieces_tokens (query fixed_piece r)) (Symbol 41 ∷ []) (Word (codes "AS") ∷ tokens name)))

  named-no_clause : (name : List ℕ) → has_balanced_fragments (subquery_as fixed_piece (raw_piece name) r) ≡ true → has_clause (tokens name) ≡ false
      → has_clause (pieces_tokens (subquery_as fixed_piece (raw_piece name) r)) ≡ false
  named-no_clause name all none =
      let inner = pieces_tokens (query fixed_piece r) in
      let even = shape-even (query fixed_piece r) (inner-balanced r parts (fixed_piece (codes ") AS ") ++ raw_piece name) all) (query-even r parts) in
      ap has_clause (named-tokens name)
      ∙ has_top_level-append is_clause_word (where_tokens.in_brackets inner) (Word (codes "AS") ∷ tokens name) (is_even-brackets inner even)
      ∙ or_from _ _ (no_clause-brackets inner even) none

  pub table : (finish : FinishText) (text : List ℕ) → HasShape (layout_at fixed_piece raw_piece finish r) text
      → NestsAsTable finish (layout_at fixed_piece raw_piece finish r) text
  table Sql text shaped = λ makes all. absurd (false≢true makes)
  table Query text shaped = λ makes all. absurd (false≢true makes)
  table QueryValues text shaped = λ makes all. absurd (false≢true makes)
  table Subquery text shaped = λ makes all.
      let both = and_parts _ (not (has_clause_word text)) (nests r parts Subquery text shaped all) in
      and_from _ _ (and_parts (balanced text) _ (and_parts _ _ both.0).0).0 both.1
  table (SubqueryAs name) text shaped = λ makes all.
      let same = shaped (fragments_closed (subquery_as fixed_piece (raw_piece name) r) all) in
      let none = sym (has_top_level-is is_clause_word (tokens name)) ∙ not-true _ makes in
      and_from _ _ (nests r parts (SubqueryAs name) text shaped all)
      (not_from_false _ (has_top_level-is is_clause_word (tokens text) ∙ ap has_clause same ∙ named-no_clause name all none))

-- ---- a list of calls

pub subqueries_nest : SubqueriesNestAsTables
subqueries_nest start calls finish makes =
    let its_clauses = clauses start calls in
    of_pieces start calls finish (λ printed. IsTrue (has_balanced_fragments printed)) (λ printed text. IsTrue (is_fit (Bare text)))
    (table its_clauses (clauses-neutral start calls) finish (pieces_text (layout finish its_clauses)) (printed-shaped start calls finish).shape_is makes)

-- ---- a builder

pub subquery_as_table : (r : ClauseTexts) (text name : List ℕ) → text ≡ subquery_as byte_units name r
    → NestsAsTable (SubqueryAs name) (subquery_as fixed_piece (raw_piece name) (as_fragments r)) text
subquery_as_table r text name is = table (as_fragments r) (raw-neutral r) (SubqueryAs name) text (subquery_as_shape r text name is)
