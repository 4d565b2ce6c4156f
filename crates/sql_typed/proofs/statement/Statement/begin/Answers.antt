use Rattle.sql_typed.proofs.Imports.{◌∙◌, ap, inr, refl, sym, kind_of, made_in, marks_of, start_on, started, Made}
use Rattle.sql_builder.proofs.statements.RunLemmas.{clauses_start}
use Rattle.sql_typed.proofs.FitLemmas.{start_fits}
use Rattle.sql_typed.proofs.PrintLemmas.{borrowed}
use Rattle.sql_typed.proofs.statement.Statement.begin.Goals as goal

pub invariant_of-result : goal.invariant_of-result
invariant_of-result g c =
    let table = g.T.ToText.text c.args.table in
    let start = start_on c.args.start table in
    let same = sym (ap made_in c.of-made.ensures) in (
      borrowed same
          (c.in-Ok.ensures.ok ∙ c.begin_on-builder.ensures.started ∙ ap (λ t. started (start_on c.args.start t)) c.in_ok-to_text.ensures.text ∙ sym (clauses_start start))
          (record { is_made = refl; start_fits = start_fits c.args.start table (g.met.T.FragmentText.fits_as_fragment c.args.table); calls_fit = refl; prints_conditions = inr refl }),
      c.of.ensures table ∙ ap marks_of same,
      ap (λ (m : Made). kind_of m.start) (sym same) ∙ c.requires,
    )
