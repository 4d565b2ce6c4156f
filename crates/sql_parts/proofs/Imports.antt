-- The names of std and of the libraries below that the proofs use, passed on.
pub use Rattle.std.proofs.Common.{Bool, Bor, Err, FitsSigned, Global, IfOk, List, MatchOption, None, Ok, Option, Result, Some, String, T, [], ap, append-nil}
pub use Rattle.std.proofs.Common.{append_assoc, ap₂, arith, below_more, bit_and, codes, cond, drop, drop-cons, eq-eqb, eq-zero-or-pos, eqb, eqb-true, eqb→eq}
pub use Rattle.std.proofs.Common.{false, flat_map, get_or, inl, inr, int_le, leb, length, length-append, length-drop, length-set, length-take, lit<, ltb, map}
pub use Rattle.std.proofs.Common.{mul-le-mul_left, mul-one, mul_assoc, mul_comm, ne_eqb, negsuc, not, option_map, pos, refl, replicate, reverse, rules, set}
pub use Rattle.std.proofs.Common.{string_bytes, subst, suc, sym, take, tests, to_z-of_z, true, true≢false, unsigned_abs, unwrap_or, w64, w8, zero, ℕ, ℤ, ◌%◌}
pub use Rattle.std.proofs.Common.{◌&&◌, ◌*◌, ◌++◌, ◌+ℤ◌, ◌+◌, ◌-ℤ◌, ◌-◌, ◌/◌, ◌<◌, ◌^◌, ◌||◌, ◌∙◌, ◌∷◌, ◌≡◌, ◌≢◌, ◌≤◌, ◌⊎◌}
pub use Rattle.std.proofs.Math.Bool.{and-false, and-true, and_assoc, beq, not-not, or-false, or-true}
pub use Rattle.std.proofs.Math.IntN.{+ℤ_idl, +ℤ_idr, +ℤ_one, pred_ℤ, suc-pred, suc_ℤ}
pub use Rattle.std.proofs.Math.Seq.{drop-append_seam, drop-length, take-append_seam, take-length}
pub use Rattle.std.proofs.lemmas.Bool.{and_from, and_parts, cases_Bool, cases_lt, cond-false, cond-true, eqb-false, false≢true, le-leb, le-ltb, leb-false}
pub use Rattle.std.proofs.lemmas.Bool.{leb-true, lt-leb, lt-ltb, ltb-true, not-true, not_from_false, or_cases, or_from, or_left, or_parts, or_right}
pub use Rattle.std.proofs.lemmas.Bool.Decides.{Decides-eqb, Decides-ltb, eqb_tells, nat_tests, same_from_decides}
pub use Rattle.std.proofs.lemmas.Fmt.{IsAscii-decimal_wide, decimal_digit, length-decimal-le}
pub use Rattle.std.proofs.lemmas.Grind.{common_steps, flat_map-append}
pub use Rattle.std.proofs.lemmas.Int.{ints}
pub use Rattle.std.proofs.lemmas.Int.Digits.{all_below_base_digits_of, digits_of_step, digits_value_is, digits_value_more, number_digits_of}
pub use Rattle.std.proofs.lemmas.List.{append_cancel_right, drop-drop, drop-set, drop_all, drop_more, get_or-drop, get_or-map, get_or-take, get_or_past}
pub use Rattle.std.proofs.lemmas.List.{length-map, map-append, map_push, reverse-append, set_comm, take-append-drop, take-map, take_all, take_more}
pub use Rattle.std.proofs.lemmas.List.Elements.{All-from_get_or, All-from_recursion, recursion_from_All}
pub use Rattle.std.proofs.lemmas.List.Folds.{list_all-map, list_any-append, list_any_at, list_any_none}
pub use Rattle.std.proofs.lemmas.List.Sums.{prefix_len_is, sum_by-cons}
pub use Rattle.std.proofs.lemmas.Map.Text.{is_eq-slice_cmp}
pub use Rattle.std.proofs.lemmas.Slice.Eq.{bytes_eq-Decides, ends_is, starts_is}
pub use Rattle.std.proofs.lemmas.Str.{IsCharBoundary-after_ascii, IsCharBoundary-at_seam, IsCharBoundary-before_ascii, IsCharBoundary-from_drop}
pub use Rattle.std.proofs.lemmas.Str.{IsCharBoundary-start, IsUtf8-drop, IsUtf8-from_ascii, IsUtf8-past_char, IsUtf8-take, chars-append, chars-encodes}
pub use Rattle.std.proofs.lemmas.Str.{chars-nil, encode_ascii, encodes-append, encodes-chars, inside_one, scalars-chars}
pub use Rattle.std.proofs.lemmas.Str.Pattern.{split_once_first, split_parts, strip_prefix_char, strip_suffix_char}
pub use Rattle.std.specs.Char.{digit_value, is_ascii_digit, to_ascii_lowercase}
pub use Rattle.std.specs.Cmp.Lexicographic.{slice_cmp}
pub use Rattle.std.specs.Fmt.{decimal, signed_decimal}
pub use Rattle.std.specs.Int.{bit_at, trailing_zeros, w128}
pub use Rattle.std.specs.Int.Digits.{AllBelowBase, digits_of, number_from_digits}
pub use Rattle.std.specs.List.{All, AllByRecursion, HoldsAt, after_first, before_first, count_by, ends_with, find, list_all, list_any, position_or_len}
pub use Rattle.std.specs.List.{prefix_len, range_with_len, slice_get, starts_with, zip}
pub use Rattle.std.specs.Map.{lookup, update_all}
pub use Rattle.std.specs.Option.{is_some, option_map_or, option_to_list}
pub use Rattle.std.specs.Ordering.{eq_by_cmp, int_eq, nat_cmp}
pub use Rattle.std.specs.Prelude.{IfErr, IfSome, IsTrue, encode_utf8, encode_utf8_all, if◌then◌else◌, is_none, nat_eq, nat_le, nat_lt, slice_index, ◌==◌, ◌↔◌}
pub use Rattle.std.specs.Str.{IsAscii, IsCharBoundary, IsUtf8, bytes_eq, str_eq_ignore_ascii_case, str_to_ascii_lowercase}
pub use Rattle.std.specs.Str.Parse.{digits_value}
pub use Rattle.std.specs.Str.Pattern.{FindsText, HasMatch, LacksTextAt, SplitsAroundMatch}
pub use Rattle.sql_parts.specs.Positional.{cut, value_of}
pub use Rattle.sql_parts.specs.Readers.{Part, marks}
pub use Rattle.sql_parts.specs.Templates.{Marks, followed_by, prefix}
pub use Rattle.sql_parts.specs.Tokens.{Name, inside}
pub use Rattle.sql_parts.specs.declared.delimiters.Quotes.{Quotes}
pub use Rattle.sql_parts.specs.declared.delimiters.Quotes.TheVariants.{Back, Double, Single, Square}
pub use Rattle.sql_parts.specs.declared.name.Form.{Form}
pub use Rattle.sql_parts.specs.declared.name.Form.TheVariants.{Bare, Between}
pub use Rattle.sql_parts.specs.declared.parameter.Style.{Style}
pub use Rattle.sql_parts.specs.declared.parameter.Style.TheVariants.{Dollar, Question}
pub use Rattle.sql_parts.specs.declared.roles.Role.{Role}
pub use Rattle.sql_parts.specs.declared.search.Front.{Front}
pub use Prim.Native.Char.{code}
pub use base.Fml.{Lft, Share, fsep}
pub use base.Logic.{emp}
pub use contract.BorrowLft.{⊑_refl, ⊑_static, ◌⊑◌}
pub use contract.Lifetimes.{Lfts, Outlives, Shares, Within, lft_at, toks}
pub use contract.Running.{Running}
pub use denote.Laws.{Are, Is, Ises, Lawful, Typed}
pub use denote.Param.{arg, layout, layouts, param}
pub use denote.Param.Laws.{Laws, arg_laws, param_laws}
pub use denote.RattleType.{Denots, Valss, owns}
pub use denote.Ref.{MutRef, NamedLft, mut_Lawful}
pub use denote.Shadow.{shadow}
pub use denote.Signature.{Signature, Slot, mut_ref, type_at, types_at}
pub use denote.Text.{Utf8}
pub use denote.Triple.Statement.{Contract, Triple}
pub use denote.Triple.Walked.{AllGo, Goes, fits_of, has_of}
pub use lib.Lanes.{chunk, mask_l, top, zip2}
pub use prog.Model.{Model}
pub use prog.Wp.{Calls, Closed, Env, Loops}
