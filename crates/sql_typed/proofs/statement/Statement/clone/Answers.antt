use Rattle.sql_typed.proofs.Imports.{◌∙◌, ap, sym, kind_of, Made, made_in, marks_of}
use Rattle.sql_typed.proofs.PrintLemmas.{borrowed}
use Rattle.sql_typed.proofs.statement.Statement.clone.Goals as goal

pub invariant_of-result : goal.invariant_of-result
invariant_of-result g c =
    let same = sym (ap made_in c.of-made.ensures) in (
      borrowed same (c.in_ok-new.ensures.ok ∙ (c.in_ok-builder.ensures.equal ∙ c.deref.ensures)) c.self.invariant.0,
      c.self.invariant.1 ∙ ap marks_of same,
      ap (λ (m : Made). kind_of m.start) (sym same) ∙ c.self.invariant.2,
    )
