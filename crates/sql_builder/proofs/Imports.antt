-- The names of std and of the libraries below that the proofs use, passed on.
pub use Rattle.std.proofs.Common.{Bool, Err, IfErr, IfOk, List, None, Ok, Option, Result, Some, String, [], ap, append-nil, append_assoc, arith, codes, cond}
pub use Rattle.std.proofs.Common.{drop, false, filter_map, flat_map, get_or, if◌then◌else◌, inl, inr, length, length-append, map, negsuc, not}
pub use Rattle.std.proofs.Common.{option_map, pos, refl, rules, string_bytes, subst, suc, sym, take, true, zero, ℕ, ℤ, ◌&&◌, ◌++◌, ◌+◌, ◌<◌, ◌==◌, ◌||◌, ◌∙◌}
pub use Rattle.std.proofs.Common.{◌∷◌, ◌≡◌, ◌≢◌, ◌≤◌, ◌⊎◌}
pub use Rattle.std.proofs.Math.IntN.{pred-suc, pred_ℤ, suc-pred, suc_ℤ}
pub use Rattle.std.proofs.lemmas.Bool.{and_from, and_left, and_parts, and_right, cases_Bool, cond-false, cond-true, eqb-false, eqb-true, false≢true, not-true}
pub use Rattle.std.proofs.lemmas.Bool.{not_from_false, or_cases, or_from, or_left, or_parts, or_right, true≢false}
pub use Rattle.std.proofs.lemmas.Bool.Decides.{nat_tests}
pub use Rattle.std.proofs.lemmas.Grind.{flat_map-append}
pub use Rattle.std.proofs.lemmas.List.{length-map, map-append, take_more}
pub use Rattle.std.proofs.lemmas.List.Elements.{filter_map-append}
pub use Rattle.std.proofs.lemmas.List.Folds.{list_all-append, list_all-map, list_any-append}
pub use Rattle.std.proofs.lemmas.Result.{IfOk-at_ok, IfOk-weaker}
pub use Rattle.std.proofs.lemmas.Simd.{map-map}
pub use Rattle.std.specs.List.{AllByRecursion, cons_option, last_or, list_all, list_any}
pub use Rattle.std.specs.Option.{option_or, option_to_list}
pub use Rattle.std.specs.Prelude.{IfSome, IsNone, IsTrue, is_none, is_ok, is_some, nat_eq}
pub use Rattle.std.specs.Result.{result_and, result_map_both}
pub use Rattle.sql_parts.proofs.chains.Prelude.{Logic, RattleType, Ura, a_type, bounded, dcons, dnil, inst_fn, plain}
pub use Rattle.sql_parts.proofs.fragments.DepthFacts.{after, all_behind, at_end, change, closes_from, closes_from-is, end-is, has_top_level}
pub use Rattle.sql_parts.proofs.fragments.DepthFacts.{has_top_level-is, inside-is, is_at_least_0, is_at_least_1, is_balanced, is_balanced-is, is_even, is_operand}
pub use Rattle.sql_parts.proofs.fragments.DepthFacts.{is_operand-is, is_zero, placed, placed-is, placed_from, stays_inside}
pub use Rattle.sql_parts.proofs.fragments.ViolationLemmas.{balanced_whole, met}
pub use Rattle.sql_parts.proofs.fragments.StringTextFacts.{any-blank, closed-alike, ignores, somewhere}
pub use Rattle.sql_parts.proofs.templates.BoundSeamLemmas.{texts-apart, unmarked-front}
pub use Rattle.sql_parts.proofs.tokens.JoinFacts.{begins-append, clean-behind, enclosed-tokens}
pub use Rattle.sql_parts.proofs.tokens.TokenFacts.{between-tokens, between_closed, closed-shut, seam}
pub use Rattle.sql_parts.proofs.tokens.TokenReaderLemmas.{IsShut, edge-alike, edge-ends, opens-every, shut-behind}
pub use Rattle.sql_parts.specs.Fragments.{Nested, Placed, TopLevel, as_placed, at_top_level, balanced, clause_words, has_clause_word, is_clause_word}
pub use Rattle.sql_parts.specs.Fragments.{is_joining, is_symbol, is_whole, is_word, lowers, operand, raises, token_of}
pub use Rattle.sql_parts.specs.Literal.{LiteralValue, literal_text, null, truth, whole, words}
pub use Rattle.sql_parts.specs.NumberedTexts.{is_taken, with_values}
pub use Rattle.sql_parts.specs.Operands.{ServesAsOperand, is_fragment}
pub use Rattle.sql_parts.specs.Quoting.{doubled, escaped, quoted}
pub use Rattle.sql_parts.specs.StringTexts.{IgnoresStrings, blank, blank_token, length_in_tokens, outline, semicolon_count, tokens_but}
pub use Rattle.sql_parts.specs.Templates.{Nums, Replacement, bound, listed}
pub use Rattle.sql_parts.specs.Text.{join_with, texts}
pub use Rattle.sql_parts.specs.TokenReader.{token_reader}
pub use Rattle.sql_parts.specs.Tokens.{Name, Open, Str, Symbol, Token, Word, begins_with, clean, closed, ends_with, has_semicolon, is_edge, is_empty, is_open}
pub use Rattle.sql_parts.specs.Tokens.{is_semicolon, tokens}
pub use Rattle.sql_parts.specs.declared.delimiters.Quotes.TheVariants.{Single}
pub use Rattle.sql_parts.specs.declared.error.SqlBuilderError.{SqlBuilderError}
pub use Rattle.sql_parts.specs.declared.error.SqlBuilderError.TheVariants.{NoGroupBy, NoSetFields, NoTableName, NoValues}
pub use Rattle.sql_builder.specs.Clauses.{Clauses}
pub use Rattle.sql_builder.specs.Condition.{Raw}
pub use Rattle.sql_builder.specs.Pieces.{Pieces}
pub use Rattle.sql_builder.specs.StatementReaders.{parts_at}
pub use Rattle.sql_builder.specs.WhereTokens.{in_brackets}
pub use Rattle.sql_builder.specs.contracts.builder.SqlBuilder.{the_view}
pub use Rattle.sql_builder.specs.contracts.ghost_list.GhostList.{the_row, the_type}
pub use Rattle.sql_builder.specs.declared.clauses.GroupedCondition.{GroupedCondition}
pub use Rattle.sql_builder.specs.declared.clauses.JoinOperator.{JoinOperator}
pub use Rattle.sql_builder.specs.declared.clauses.Kind.{Kind}
pub use Rattle.sql_builder.specs.declared.clauses.Kind.TheVariants.{DeleteFrom, InsertInto, SelectFrom, SelectValues, UpdateTable}
pub use Rattle.sql_builder.specs.declared.condition.Family.{Family}
pub use Rattle.sql_builder.specs.declared.condition.Family.TheVariants.{And, Or}
pub use Rattle.sql_builder.specs.declared.condition.Percent.TheVariants.{Any, Plain}
pub use Rattle.sql_builder.specs.declared.condition.Relation.{Relation}
pub use Rattle.sql_builder.specs.declared.condition.Relation.TheVariants.{Eq, Ge, Gt, Le, Lt, Ne}
pub use Rattle.sql_builder.specs.declared.steps.BinaryClause.{BinaryClause}
pub use Prim.Native.Char.{code}
pub use contract.Running.{Running, tables}
pub use denote.Param.Send.{IsSend, IsSync, owning_send, part_keyless, sendable}
pub use denote.RattleType.{owns}
pub use denote.Signature.{types_at}
pub use mir.Syntax.{Args, Callee, Dict, Fn, named}
