-- What a chain call says of the builder that it gives back, and of one that it fails on.
use Rattle.std.specs.Prelude.{◌≡◌, Result}
use Rattle.std.specs.Borrow.{Fml, MutBor}
use Rattle.sql_parts.specs.Loans as loan
use Rattle.sql_parts.specs.declared.loan.Loan.{Loan}
use Rattle.sql_builder.specs.Builder.{ClauseTexts}
use Rattle.sql_builder.specs.contracts.builder.SqlBuilder.{the_row}

-- the call gives the same builder back
abbrev pub IsSameLoan : MutBor ClauseTexts → MutBor ClauseTexts → Type 0
IsSameLoan given back = back.ghost_name ≡ given.ghost_name

-- where the call fails, the builder is as it was
abbrev pub IsUnchangedIfErr : {E : Type 0} → MutBor ClauseTexts → Result (MutBor ClauseTexts) E → Fml
IsUnchangedIfErr builder result = loan.IsUnchangedIfErr the_row builder result

-- where the call fails, the builder that was to be lent is as it was
abbrev pub IsUnchangedIfLoanErr : {E : Type 0} → MutBor ClauseTexts → Result (Loan ClauseTexts) E → Fml
IsUnchangedIfLoanErr builder result = loan.IsUnchangedIfLoanErr the_row builder result
