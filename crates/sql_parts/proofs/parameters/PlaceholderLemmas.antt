-- Placeholders of one value more.
use Rattle.sql_parts.proofs.Imports.{◌≡◌, ℕ, suc, ◌+◌, List, [], ◌∷◌, ◌++◌, length, ap, ◌∙◌, arith, Style}
use Rattle.sql_parts.specs.{placeholders_behind}

module _ {V : Type 0} where
  pub next-number : (style : Style) (before : ℕ) (values : List V) (value : V)
      → placeholders_behind style before (values ++ value ∷ [])
      ≡ placeholders_behind style before values ++ record { style = style; number = suc (before + length values) } ∷ []
  next-number style before [] value =
      let same : before ≡ before + 0 = omega arith in ap (λ n. (record { style = style; number = suc n }) ∷ []) same
  next-number style before (first ∷ values) value =
      let same : suc before + length values ≡ before + suc (length values) = omega arith in
      ap (λ more. (record { style = style; number = suc before }) ∷ more)
      (next-number style (suc before) values value
      ∙ ap (λ n. placeholders_behind style (suc before) values ++ record { style = style; number = suc n } ∷ []) same)
