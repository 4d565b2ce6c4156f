use Rattle.sql_typed.proofs.Imports.{Err, Ok, refl, rules, string_bytes, and_from, SubqueryAs, fits_as, fault_of}
use Rattle.sql_typed.proofs.FaultLemmas.{fails_with, passed_by}
use Rattle.sql_typed.proofs.PrintLemmas.{all_printed}
use Rattle.sql_typed.proofs.select.Statement+SelectKind.subquery_as.Goals as goal

pub invariant_of-result : goal.invariant_of-result
invariant_of-result g c =
    let serves = g.met.N.OperandText.serves_as_operand c.args.name in
    let printed = all_printed (SubqueryAs (g.N.ToText.text c.args.name)) c.clauses.ensures (and_from _ _ (fits_as refl serves) refl) string_bytes
    (Ok c.in_ok-text.text) c.in_ok-text.ensures.text (fails_with _ _ c.in_ok-text.ensures.error c.in_ok-text.ensures.memory) in
    record { fits = printed.nests_as_table serves.no_clause_word }

pub returns-clause-printed : goal.returns-clause-printed
returns-clause-printed g c =
    all_printed (SubqueryAs (g.N.ToText.text c.args.name)) c.clauses.ensures
    (and_from _ _ (fits_as refl (g.met.N.OperandText.serves_as_operand c.args.name)) refl) string_bytes (Ok c.in_ok-text.text)
    c.in_ok-text.ensures.text (fails_with _ _ c.in_ok-text.ensures.error c.in_ok-text.ensures.memory)

pub returns-in_err-text-clause-error : goal.returns-in_err-text-clause-error
returns-in_err-text-clause-error g c =
    passed_by (SubqueryAs (g.N.ToText.text c.args.name)) c.clauses.ensures (fault_of c.args.self.now) (search rules) (Err c.in_err-text.field-0.0) _
    c.from_residual-in_err-text.ensures.1 (fails_with _ _ c.in_err-text.ensures.error c.in_err-text.ensures.memory)

pub returns-clause-error : goal.returns-clause-error
returns-clause-error g c =
    passed_by (SubqueryAs (g.N.ToText.text c.args.name)) c.clauses.ensures (fault_of c.args.self.now) (search rules) (Ok c.in_ok-text.text) _ refl
    (fails_with _ _ c.in_ok-text.ensures.error c.in_ok-text.ensures.memory)
