use Rattle.sql_parts.proofs.Imports.{◌∙◌, ◌&&◌, ap, sym}
use Rattle.sql_parts.specs.{encloses_clauses, tokens}
use Rattle.sql_parts.proofs.fragments.{fragment_read, operand_read, typed_fragment_read, typed_operand_read}
use Rattle.sql_parts.proofs.lex.meets.Goals as goal

pub returns-in-Fragment : goal.returns-in-Fragment
returns-in-Fragment c = rw c.in-Fragment.is (c.is_balanced_as.ensures ∙ fragment_read c.args.text.now)

pub returns-in-Operand : goal.returns-in-Operand
returns-in-Operand c = rw c.in-Operand.is (c.is_balanced_as-in-Operand.ensures ∙ operand_read c.args.text.now)

pub returns-then-is_balanced_as : goal.returns-then-is_balanced_as
returns-then-is_balanced_as c = rw c.in-TypedFragment.is (c.encloses_clauses.ensures
    ∙ ap (λ b. b && encloses_clauses 0 (tokens c.args.text.now)) (sym c.if-is_balanced_as.true ∙ c.is_balanced_as-in-TypedFragment.ensures)
    ∙ typed_fragment_read c.args.text.now)

pub returns-else-is_balanced_as : goal.returns-else-is_balanced_as
returns-else-is_balanced_as c = rw c.in-TypedFragment.is (c.if-is_balanced_as.false
    ∙ ap (λ b. b && encloses_clauses 0 (tokens c.args.text.now)) (sym c.if-is_balanced_as.false ∙ c.is_balanced_as-in-TypedFragment.ensures)
    ∙ typed_fragment_read c.args.text.now)

pub returns-then-is_balanced_as-2 : goal.returns-then-is_balanced_as-2
returns-then-is_balanced_as-2 c = rw c.in-TypedOperand.is (c.encloses_clauses-then-is_balanced_as-2.ensures
    ∙ ap (λ b. b && encloses_clauses 0 (tokens c.args.text.now)) (sym c.if-is_balanced_as-2.true ∙ c.is_balanced_as-in-TypedOperand.ensures)
    ∙ typed_operand_read c.args.text.now)

pub returns-else-is_balanced_as-2 : goal.returns-else-is_balanced_as-2
returns-else-is_balanced_as-2 c = rw c.in-TypedOperand.is (c.if-is_balanced_as-2.false
    ∙ ap (λ b. b && encloses_clauses 0 (tokens c.args.text.now)) (sym c.if-is_balanced_as-2.false ∙ c.is_balanced_as-in-TypedOperand.ensures)
    ∙ typed_operand_read c.args.text.now)
