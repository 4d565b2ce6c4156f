use Rattle.sql_typed.proofs.Imports.{Err, Ok, refl, rules, string_bytes, ◌++◌, codes, Sql, following_fault_of}
use Rattle.sql_typed.proofs.FaultLemmas.{passed_by}
use Rattle.sql_typed.proofs.PrintLemmas.{all_printed}
use Rattle.sql_typed.proofs.WholeLemmas.{made_whole}
use Rattle.sql_typed.proofs.clauses.Statement+InsertKind.rows.Goals as goal

pub bare-requires : goal.bare-requires
bare-requires c = record { front = made_whole c.args.self.now c.clauses.result.now c.clauses.ensures }

pub returns-clause-printed : goal.returns-clause-printed
returns-clause-printed c =
    all_printed Sql c.clauses.ensures refl (λ p. string_bytes p.text ++ codes ";") (Ok c.in_ok-printed.printed) c.in_ok-printed.ensures.text
    c.in_ok-printed.ensures.error

pub returns-in_err-printed-clause-error : goal.returns-in_err-printed-clause-error
returns-in_err-printed-clause-error c =
    passed_by Sql c.clauses.ensures (following_fault_of c.args.self.now) (search rules) (Err c.in_err-printed.field-0.0) _ c.from_residual-in_err-printed.ensures.1
    c.in_err-printed.ensures.error

pub returns-clause-error : goal.returns-clause-error
returns-clause-error c =
    passed_by Sql c.clauses.ensures (following_fault_of c.args.self.now) (search rules) (Ok c.in_ok-printed.printed) _ refl c.in_ok-printed.ensures.error
