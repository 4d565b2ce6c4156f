-- The placeholders of values are decided by how many these are.
use Rattle.sql_builder.proofs.Imports.{◌≡◌, ℕ, suc, ◌+◌, List, [], ◌∷◌, ◌++◌, length, refl, ap, ◌∙◌, arith}
use Rattle.sql_parts.specs.Parameters.{placeholders_behind}
use Rattle.sql_parts.specs.declared.parameter.Style.{Style}
use Rattle.sql_parts.proofs.parameters.PlaceholderLemmas.{next-number}
use Rattle.sql_builder.specs.{BindGivesTheNext, ValuesAreBesideStatements, statement}

module _ {V : Type 0} {W : Type 0} where
  same-number : (style : Style) (before : ℕ) (one : List V) (other : List W) → length one ≡ length other
      → placeholders_behind style before one ≡ placeholders_behind style before other
  same-number style before [] [] same = refl
  same-number style before [] (value ∷ other) same = absurd (omega (arith, same))
  same-number style before (value ∷ one) [] same = absurd (omega (arith, same))
  same-number style before (value ∷ one) (another ∷ other) same =
      ap (λ more. (record { style = style; number = suc before }) ∷ more) (same-number style (suc before) one other (omega (arith, same)))

  pub values-beside : ValuesAreBesideStatements V W
  values-beside start calls finish style one other same =
      ap (λ given. statement (start given) (calls given) finish) (same-number style 0 one other same)

module _ {V : Type 0} where
  pub bind-next : BindGivesTheNext V
  bind-next style values value =
      let same : 0 + length values ≡ length values = omega arith in
      next-number style 0 values value
      ∙ ap (λ n. placeholders_behind style 0 values ++ record { style = style; number = suc n } ∷ []) same
