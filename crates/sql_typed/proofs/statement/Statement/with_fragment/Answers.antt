use Rattle.sql_typed.proofs.Imports.{◌∙◌, refl, unary_fits}
use Rattle.sql_typed.proofs.statement.Statement.with_fragment.Goals as goal

pub add-requires : goal.add-requires
add-requires g c = record {
  fits = unary_fits c.args.clause c.as_str.result.now (g.T.ToText.text c.args.text) (c.as_str.ensures.value ∙ c.in_ok-text.ensures.text)
      (g.met.T.FragmentText.fits_as_fragment c.args.text);
  prints = refl;
}
