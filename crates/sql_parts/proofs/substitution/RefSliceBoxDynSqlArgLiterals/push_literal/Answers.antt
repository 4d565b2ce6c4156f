use Rattle.sql_parts.proofs.Imports.{◌≡◌, ℕ, ◌<◌, ◌≤◌, List, Option, MatchOption, None, Some, get_or, length, refl, sym, HoldsAt, slice_get, IfSome}
use Rattle.std.proofs.Common.{option_copied}
use Rattle.std.specs.Borrow.{Bor}
use Rattle.std.proofs.lemmas.Option.{slice_get-map, slice_get_past, slice_get_read}
use Rattle.sql_parts.proofs.substitution.RefSliceBoxDynSqlArgLiterals.push_literal.Goals as goal

got : {X : Type 0} (xs : List X) (at : ℕ) (found : Option (Bor X)) → IfSome found (λ x. x.now ≡ get_or xs at x.now)
    → MatchOption found (length xs ≤ at) (λ x. (at < length xs) × HoldsAt (λ y. x.now ≡ y) xs at) → option_copied found ≡ slice_get xs at
got xs at None is past = sym (slice_get_past xs at past)
got xs at (Some x) is within = sym (slice_get_read xs (length xs) at x.now refl within.0 is)

pub returns-in-Argument : goal.returns-in-Argument
returns-in-Argument c c' =
    let found = c'.get.ensures.lookup in
    record {
      text = rw (c'.in-Argument.is, slice_get-map, ← got c'.args.self.now.now c'.in-Argument.at c'.get.result found.1 found.3) c'.push_found.ensures.literal;
      memory = c'.push_found.ensures.memory;
    }
