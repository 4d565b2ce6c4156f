use Rattle.sql_typed.proofs.Imports.{◌++◌, ◌∙◌, List, ap, rules, Made, made_in, added_call}
use Rattle.sql_typed.proofs.FaultLemmas.{made_more}
use Rattle.sql_typed.proofs.TruthLemmas.{added_prints}
use Rattle.sql_typed.proofs.statement.Statement.add.Goals as goal

pub invariant_of-self : goal.invariant_of-self
invariant_of-self g c =
    let before = made_in c.self.inside.made.items in
    let more = made_more g.K.Begins.kind before _ (added_call c.args.added) c.self.inside.builder.it.value c.make_call.new.builder c.self.inside.marks
    (ap made_in c.of-made.ensures
    ∙ ap (λ (call : List Made). record { start = before.start; calls = before.calls ++ (made_in call).calls; all_rows = before.all_rows }) c.of-call.ensures)
    (search rules) c.self.invariant c.requires.fits (added_prints _ c.args.added c.requires.prints) in
    (more.0, c.with-marks.ensures ∙ more.1, more.2)
