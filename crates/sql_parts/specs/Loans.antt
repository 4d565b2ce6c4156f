-- What a call says that changes a value and returns the mutable borrow of it, so that calls form a chain.
use Rattle.std.specs.Prelude.{◌≡◌, Result, IfOk}
use Rattle.std.specs.Borrow.{Fml, MutBor, RattleType, RestsIfErr}
use Rattle.sql_parts.specs.declared.loan.Loan.{Loan}

-- where the call fails, the borrowed value, of the type with the row R, is unchanged
abbrev pub IsUnchangedIfErr : (R : RattleType) {E : Type 0} → MutBor R.Denot → Result (MutBor R.Denot) E → Fml
IsUnchangedIfErr R borrowed result =
    RestsIfErr R borrowed (λ back. back.ghost_name) result (λ after. after ≡ borrowed.now)

-- the same of a borrow that was to be lent
abbrev pub IsUnchangedIfLoanErr : (R : RattleType) {E : Type 0} → MutBor R.Denot → Result (Loan R.Denot) E → Fml
IsUnchangedIfLoanErr R borrowed result =
    RestsIfErr R borrowed (λ loan. loan.0.ghost_name) result (λ after. after ≡ borrowed.now)

-- where it succeeds, it returns the same borrow, and this holds of the value
abbrev pub IsChangedSoThat : {T E : Type 0} → MutBor T → (T → Type 0) → Result (MutBor T) E → Type 0
IsChangedSoThat borrowed Holds result = IfOk result (λ back. (back.ghost_name ≡ borrowed.ghost_name) × Holds back.now)

-- where it succeeds, it returns the same borrow, and this is the value now
abbrev pub IsChangedTo : {T E : Type 0} → MutBor T → T → Result (MutBor T) E → Type 0
IsChangedTo borrowed value result = IsChangedSoThat borrowed (λ now. now ≡ value) result

-- where it succeeds, the same borrow is lent, and this holds of the value
abbrev pub IsLoanChangedSoThat : {T E : Type 0} → MutBor T → (T → Type 0) → Result (Loan T) E → Type 0
IsLoanChangedSoThat borrowed Holds result = IfOk result (λ loan. (loan.0.ghost_name ≡ borrowed.ghost_name) × Holds loan.0.now)

-- where it succeeds, the same borrow is lent, and this is the value now
abbrev pub IsLoanChangedTo : {T E : Type 0} → MutBor T → T → Result (Loan T) E → Type 0
IsLoanChangedTo borrowed value result = IsLoanChangedSoThat borrowed (λ now. now ≡ value) result
