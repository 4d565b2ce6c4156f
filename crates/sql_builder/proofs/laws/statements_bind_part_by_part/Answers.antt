use Rattle.sql_builder.proofs.statements.BoundCallLemmas.{calls-bound, combined-bound, conditions-bound, exists-bound, mask-bound, negation-bound}
use Rattle.sql_builder.proofs.statements.BoundStatementLemmas.{clauses-bound, condition-bound, statements-bound}
use Rattle.sql_builder.proofs.laws.statements_bind_part_by_part.Goals as goal

pub returns : goal.returns
returns c = record {
  statements = statements-bound;
  clauses = clauses-bound;
  conditions = condition-bound;
  fragments = conditions-bound;
  combined = combined-bound;
  negations = negation-bound;
  exists = exists-bound;
  masks = mask-bound;
  calls = calls-bound;
}
