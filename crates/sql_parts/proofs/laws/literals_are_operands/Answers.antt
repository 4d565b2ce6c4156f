use Rattle.sql_parts.specs.Literal.{whole, words}
use Rattle.sql_parts.proofs.fragments.OperandFacts.{bool-serves, literal-serves}
use Rattle.sql_parts.proofs.laws.literals_are_operands.Goals as goal

pub returns : goal.returns
returns c = record {
  literals = literal-serves;
  numbers = λ number. literal-serves (whole number);
  truths = bool-serves;
  quote = λ text. literal-serves (words text);
}
