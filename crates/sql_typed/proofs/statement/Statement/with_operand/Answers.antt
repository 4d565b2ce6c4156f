use Rattle.sql_typed.proofs.Imports.{◌∙◌, refl, fits_as, unary_fits}
use Rattle.sql_typed.proofs.statement.Statement.with_operand.Goals as goal

pub add-requires : goal.add-requires
add-requires g c = record {
  fits = unary_fits c.args.clause c.as_str.result.now c.as_str.result.now refl
      (fits_as (c.as_str.ensures.value ∙ c.in_ok-text.ensures.text) (g.met.F.OperandText.serves_as_operand c.args.text));
  prints = refl;
}
