-- The names of std and of the libraries below that the proofs use, passed on.
pub use Rattle.std.proofs.Common.{Bool, Err, Fits, List, None, Ok, Option, Result, Some, [], add-one, add-zero, ap, append_assoc, ap₂, arith, bit_and, bit_or}
pub use Rattle.std.proofs.Common.{codes, cond, decimal, drop, drop-cons, eqb, eqb-true, false, filter_map, flat_map, get_or, if◌then◌else◌, inl, inr, le-leb}
pub use Rattle.std.proofs.Common.{le-ltb, leb, leb-false, leb-true, length, length-append, length-drop, length-take, length-take-le, lit<, lt-ltb, map, not}
pub use Rattle.std.proofs.Common.{refl, replicate, rules, set, subst, suc, sym, take, take-add, true, vec_len, w8, ℕ, ◌%◌, ◌&&◌, ◌*◌, ◌++◌, ◌+◌, ◌-◌, ◌/◌, ◌<◌}
pub use Rattle.std.proofs.Common.{◌==◌, ◌^◌, ◌||◌, ◌∙◌, ◌∷◌, ◌≡◌, ◌≢◌, ◌≤◌, ◌⊎◌}
pub use Rattle.std.proofs.KnownBytes.{Appends-kept, Appends-nil, Appends-trans, Consumes-nil, Consumes-trans, starts_with_rest}
pub use Rattle.std.proofs.Math.Bool.{or-false}
pub use Rattle.std.proofs.Math.Seq.{drop-append_seam, take-append_seam}
pub use Rattle.std.proofs.lemmas.Bool.{cases_lt, cond-false, cond-true, eq-eqb, ltb-false, ltb-true, ne_eqb}
pub use Rattle.std.proofs.lemmas.Fmt.{decimal_digit, decimal_is_IsNumeral, decimal_step, length-decimal-le}
pub use Rattle.std.proofs.lemmas.Grind.{common_steps, flat_map-append}
pub use Rattle.std.proofs.lemmas.List.{append-nil, drop-drop, drop-set, drop-take, drop_all, get_or-drop, get_or-map, get_or-take, get_or_append_left}
pub use Rattle.std.proofs.lemmas.List.{get_or_past, length-map, map-append, take-append-drop, take-append-le, take-take, take_all, take_more, take_rest}
pub use Rattle.std.proofs.lemmas.List.Splits.{length-slice_split, slice_split-cons_no, slice_split-cons_yes, slice_split_first, slice_split_none}
pub use Rattle.std.proofs.lemmas.List.Sums.{fails_before_first, passes_at_first, prefix_len-le-length}
pub use Rattle.std.proofs.lemmas.Result.{err_from_is_err_and}
pub use Rattle.std.proofs.lemmas.Str.{IsCharBoundary-after_ascii, IsCharBoundary-before_ascii, IsCharBoundary-end, IsCharBoundary-from_take}
pub use Rattle.std.proofs.lemmas.Str.{IsCharBoundary-start, IsUtf8-append, IsUtf8-drop, IsUtf8-encode, IsUtf8-from_ascii, IsUtf8-from_is_utf8, IsUtf8-nil}
pub use Rattle.std.proofs.lemmas.Str.{IsUtf8-take, encode_ascii, is_utf8-from_IsUtf8}
pub use Rattle.std.proofs.lemmas.Str.Ascii.{IsAscii-cons, IsAscii-nil}
pub use Rattle.std.specs.Int.{IsInRange, bit_at, is_in_range}
pub use Rattle.std.specs.Io.{StartsWith}
pub use Rattle.std.specs.Io.KnownBytes.{Appends, Consumes, append_known}
pub use Rattle.std.specs.List.{after_first, before_first, enumerate_from, list_all, onto_first, position_or_len, slice_split}
pub use Rattle.std.specs.Prelude.{IfErr, IsTrue, OnOk, bytes_eq, is_err, is_some, nat_lt, ok_or, option_map, position}
pub use Rattle.std.specs.Str.{IsAscii, IsCharBoundary, IsUtf8, IsValidUpTo, is_utf8}
pub use Rattle.sql_builder.specs.Builder.{ClauseTexts}
pub use Rattle.sql_builder.specs.Filters.{since, until}
pub use Rattle.sql_builder.specs.SqlBuilderError.TheVariants.{NoGroupBy, NoSetFields, NoTableName, NoValues}
pub use Rattle.sqlb.specs.Output.{Output}
pub use Rattle.sqlb.specs.declared.fault.Fault.{Fault}
pub use Rattle.sqlb.specs.declared.fault.Fault.TheVariants.{At, Memory, Read, Write}
pub use Rattle.sqlb.specs.declared.fault.Reason.{Reason}
pub use Rattle.sqlb.specs.declared.fault.Reason.TheVariants.{Builder, NoEnd, NotUtf8, UnknownCall, WrongArguments}
pub use lib.Lanes.{Each1, mask_l, top, zip2}
