use Rattle.sql_parts.specs.declared.delimiters.Quotes.TheVariants.{Single, Back, Square, Double}
use Rattle.sql_parts.proofs.fragments.OperandFacts.{between-serves, quoted-name-serves, safe-name-serves}
use Rattle.sql_parts.proofs.laws.quoted_names_are_operands.Goals as goal

pub returns : goal.returns
returns c = record {
  baquote = between-serves Back;
  brquote = between-serves Square;
  dquote = between-serves Double;
  quoted = quoted-name-serves Single;
  baquoted = quoted-name-serves Back;
  brquoted = quoted-name-serves Square;
  dquoted = quoted-name-serves Double;
  safe = safe-name-serves;
}
