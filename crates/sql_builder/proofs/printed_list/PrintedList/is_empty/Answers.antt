use Rattle.sql_builder.proofs.Imports.{◌≡◌, [], ◌∷◌, ◌++◌, ◌==◌, false, ℕ, List, arith, flat_map, length, refl, nat_tests}
use Rattle.sql_builder.specs.{HasByte}
use Rattle.sql_builder.proofs.printed_list.PrintedList.is_empty.Goals as goal

longer : (bytes rest : List ℕ) → HasByte bytes → (length (bytes ++ rest) == 0) ≡ false
longer [] rest h = absurd h
longer (byte ∷ bytes) rest h = grind (arith, nat_tests)

no_text : {X : Type 0} (printed : X → List ℕ) → ((item : X) → HasByte (printed item)) → (items : List X)
    → (length (flat_map printed items) == 0) ≡ (length items == 0)
no_text printed has_byte [] = refl
no_text printed has_byte (item ∷ items) = grind (arith, nat_tests, longer (printed item) (flat_map printed items) (has_byte item))

pub returns : goal.returns
returns g c = rw (c.is_empty.ensures, c.as_str.ensures) (no_text g.T.Printed.printed g.T.Printed.has_byte c.args.self.now)
