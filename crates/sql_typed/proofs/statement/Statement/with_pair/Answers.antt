use Rattle.sql_typed.proofs.Imports.{◌∙◌, refl, fits_as, binary_fits}
use Rattle.sql_typed.proofs.statement.Statement.with_pair.Goals as goal

pub add-requires : goal.add-requires
add-requires g c = record {
  fits = binary_fits c.args.clause c.as_str.result.now c.as_str-2.result.now
      (fits_as (c.as_str.ensures.value ∙ c.in_ok-first.ensures.text) (g.met.F.OperandText.serves_as_operand c.args.first))
      (fits_as (c.as_str-2.ensures.value ∙ c.in_ok-second.ensures.text) (g.met.V.OperandText.serves_as_operand c.args.second));
  prints = refl;
}
