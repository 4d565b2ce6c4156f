-- What a call that changes a name says of its failure.
use Rattle.std.specs.Prelude.{Result}
use Rattle.std.specs.Borrow.{Fml, MutBor}
use Rattle.sql_parts.specs.Loans as loan
use Rattle.sql_parts.specs.Name.{Name}
use Rattle.sql_parts.specs.declared.loan.Loan.{Loan}
use Rattle.sql_parts.specs.contracts.name.SqlName.{the_row}

-- where the call fails, the name is unchanged
abbrev pub IsUnchangedIfErr : {E : Type 0} → MutBor Name → Result (MutBor Name) E → Fml
IsUnchangedIfErr name result = loan.IsUnchangedIfErr the_row name result

-- where the call fails, the name that was to be lent is unchanged
abbrev pub IsUnchangedIfLoanErr : {E : Type 0} → MutBor Name → Result (Loan Name) E → Fml
IsUnchangedIfLoanErr name result = loan.IsUnchangedIfLoanErr the_row name result
