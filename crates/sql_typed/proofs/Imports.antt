-- The names that many proofs use, passed on.
pub use Rattle.std.proofs.Math.Bool.{or_comm}
pub use Rattle.std.proofs.Common.{◌≡◌, ◌∙◌, ◌++◌, ap, append_assoc, codes, refl, sym, subst, ℕ, Bool, true, false, if◌then◌else◌, List, [], ◌∷◌, map, length, ◌≤◌, arith, string_bytes, Option, None, Some, Ok, Result, ◌&&◌, not, ◌==◌, ◌⊎◌}
pub use Rattle.std.proofs.Common.{inl, inr, IfOk, String, ◌+◌, append-nil, ◌<◌, add-one, drop, drop-cons, get_or, suc, eqb-true, rules, take}
pub use Rattle.sql_builder.proofs.fragments.FitLemmas.{balanced_fragments, fit_conditions, fit_fragments, fit_texts_balanced}
pub use Rattle.sql_builder.proofs.fragments.FitListLemmas.{row_fits, all-more, calls-fit, binary_fits, unary_fits}
pub use Rattle.sql_builder.proofs.fragments.TextTestLemmas.{fit_texts_are_closed, texts_pass_call_by_call}
pub use Rattle.sql_builder.proofs.statements.RunLemmas.{clauses-push, text_of_layout}
pub use Rattle.sql_builder.proofs.statements.StatementLawLemmas.{builders_print_statements, statements_are_closed, statements_have_truth, statements_keep_tokens, statements_nest, statements_read_back}
pub use Rattle.sql_builder.proofs.tokens.BalancedFacts.{balanced_closed, even_text, is_balanced-append, is_even-append, is_even-brackets, is_operand-brackets, no_clause-brackets}
pub use Rattle.sql_builder.proofs.truth.CombinedLemmas.{all_combined, any_combined, condition_fragment, condition_is_atom, fits_as, operands_balanced, combined_fragment, exists_fragment, exists_is_atom, constant_is_atom, not_exists_truth}
pub use Rattle.sql_builder.proofs.truth.CombinedLemmas.{negation_fragment, negation_truth, like_fragment, like_is_atom}
pub use Rattle.sql_builder.specs.Builder.{ClauseTexts, started, with_call}
pub use Rattle.sql_builder.specs.Calls.{CallText, FinishText, is_join, finish_raw_texts, nullary_call, Sql, StartText, kind_of, Select, clauses, Query, SubqueryAs, Subquery, Field, GroupBy, Limit, Offset, OrderAsc, OrderDesc, SelectFrom, SelectValues, QueryValues, condition_in}
pub use Rattle.sql_builder.specs.Calls.{Union, UnionAll, Cond, DeleteFrom, InsertInto, Join, On, OnEq, Returning, ReturningId, UpdateTable, start_on, Values, finish_view}
pub use Rattle.sql_builder.specs.Combined.{IsCombined, combined_text, like_text, exists_text, constant_text, negation_text}
pub use Rattle.sql_builder.specs.Condition.{ConditionText, condition_bytes, condition_raw_texts, has_operands, not_text}
pub use Rattle.sql_builder.specs.declared.condition.Condition.TheVariants.{Raw, Compare, Like, IsNull, IsNotNull, InList, InQuoted, InQuery, Between}
pub use Rattle.sql_builder.specs.FitCalls.{call_fits}
pub use Rattle.sql_builder.specs.Layout.{byte_units, concat_sections, statement_sections}
pub use Rattle.sql_builder.specs.Phrases.{in_brackets}
pub use Rattle.sql_builder.specs.RawFragments.{is_fit, encloses_fields, has_fit_texts, has_balanced_fragments, has_closed_fragments, has_no_semicolons, is_closed_piece, is_without_semicolon}
pub use Rattle.sql_builder.specs.Shape.{EndsInOneSemicolon, shape}
pub use Rattle.sql_builder.specs.Statement.{error_at, statement, text_at, unless_error}
pub use Rattle.sql_builder.specs.StatementLaws.{made_by}
pub use Rattle.sql_builder.specs.Truths.{IsAtom, and_all, or_all, truth}
pub use Rattle.sql_builder.specs.declared.condition.Percent.TheVariants.{Any, Left, Right}
pub use Rattle.sql_parts.proofs.fragments.DepthFacts.{has_top_level-is, is_balanced, is_balanced-is, is_even, is_operand, is_operand-is}
pub use Rattle.sql_parts.proofs.fragments.ViolationLemmas.{serves, balanced_whole}
pub use Rattle.sql_parts.proofs.templates.HoleFacts.{filled-tokens, LacksHole, bracketed, filled-fragment, filled-hole, filled-serves, in_hole-serves, filled-keeps, filled-none, uncut, filled-closed}
pub use Rattle.sql_parts.proofs.tokens.JoinFacts.{enclosed-tokens, clean-before, clean-behind}
pub use Rattle.sql_parts.proofs.tokens.TokenFacts.{seam, between-tokens}
pub use Rattle.sql_parts.specs.Error.{FailsOnlyByMemory, IsMemory}
pub use Rattle.sql_parts.specs.Fragments.{balanced, is_clause_word, is_symbol, has_clause_word}
pub use Rattle.sql_parts.specs.Holes.{cut, filled, holding, holes_apart, in_hole, is_dotted, is_unit, unsigned}
pub use Rattle.sql_parts.specs.Operands.{ServesAsOperand, is_fragment, has_no_clause, is_bare_operand, is_typed_fragment, is_typed_operand}
pub use Rattle.sql_parts.specs.Quoting.{quoted}
pub use Rattle.sql_parts.specs.Readers.{marks, outer_states, Part, Constant, emptied, part_bytes, parts_bytes}
pub use Rattle.sql_parts.specs.StringTexts.{blank, blank_token, outline}
pub use Rattle.sql_parts.specs.Text.{join_with, texts}
pub use Rattle.sql_parts.specs.Tokens.{tokens, Symbol, Token, closed, Name, Str, Word, begins_with, first, inside, is_blank, is_one_of, is_word_byte, tokens_from, unquoted, ends_with, has_semicolon, is_edge, is_semicolon, Open}
pub use Rattle.sql_parts.specs.declared.error.SqlBuilderError.{SqlBuilderError}
pub use Rattle.sql_typed.specs.Conditions.{OperandsServe, list_text, bracket_fronts, may_begin_bracketed, escaped_mask}
pub use Rattle.sql_typed.specs.Faults.{FailsBy, changes_rows, has_early_constraint, is_constraint, is_filter, is_order, is_returning, is_union, fault_of, following_fault_of}
pub use Rattle.sql_typed.specs.Filled.{TemplatesFollowTheirOperands, ReadersIgnoreOperandTexts, filled_parts, parts_in_holes}
pub use Rattle.sql_typed.specs.Fits.{IsFitBy, Made, adding, meaning_all_rows, beginning, made_in}
pub use Rattle.sql_typed.specs.Marks.{marks_of, noted}
pub use Rattle.sql_typed.specs.Printed.{FailsWith, IsPrinted, PrintsBehind}
pub use Rattle.sql_typed.specs.Results.{Continues}
pub use Rattle.sql_typed.specs.AddedCalls.{added_call}
pub use Rattle.sql_typed.specs.Unions.{united_text}
pub use Rattle.sql_typed.specs.Whole.{FrontsFollowTheirStatements, HasWholeFront, asking, conflict_text, is_whole, may_follow, may_join, inserted_text, lock_text, named_text, set_text}
pub use Rattle.sql_typed.specs.declared.error.Error.TheVariants.{Builder, NoCondition, NoJoin, OrderBesideUnion, ReturningFirst}
pub use Rattle.std.proofs.lemmas.Bool.{and_from, false≢true, and_parts, or_right, cases_Bool, not_from_false, or_from, or_parts, true≢false, not-true}
pub use Rattle.std.proofs.lemmas.Grind.{flat_map-append, common_steps}
pub use Rattle.std.proofs.lemmas.List.{append_cancel_right, map-append}
pub use Rattle.std.proofs.lemmas.List.Folds.{list_all-append}
pub use Rattle.std.specs.List.{list_all, list_any, AllByRecursion, starts_with}
pub use Rattle.std.specs.Prelude.{MatchResult, Err, IfSome, IsErrAnd, IsNone, ◌||◌, nat_eq, IfErr, IsTrue, OnOk, IsOk, flat_map, filter_map}
