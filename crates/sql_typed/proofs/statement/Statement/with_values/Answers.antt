use Rattle.sql_typed.proofs.Imports.{ap, inr, map, refl, rules, Values, row_fits, made_in}
use Rattle.sql_typed.proofs.FaultLemmas.{made_more}
use Rattle.sql_typed.proofs.statement.Statement.with_values.Goals as goal

pub invariant_of-self : goal.invariant_of-self
invariant_of-self g c =
    let row = map g.V.ToText.text c.args.values.now in
    made_more g.K.Begins.kind (made_in c.self.inside.made.items) _ (Values row) c.self.inside.builder.it.value c.make_variadic.new.builder c.self.inside.marks
    (ap made_in c.of-made.ensures) (search rules) c.self.invariant (row_fits row c.requires.fits) (inr refl)
