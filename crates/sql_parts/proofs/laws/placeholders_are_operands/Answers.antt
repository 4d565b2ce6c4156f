use Rattle.sql_parts.proofs.fragments.PlaceholderFacts.{placeholder-serves, placeholder-tokens}
use Rattle.sql_parts.proofs.laws.placeholders_are_operands.Goals as goal

pub returns : goal.returns
returns c = record { operands = placeholder-serves; tokens = placeholder-tokens }
