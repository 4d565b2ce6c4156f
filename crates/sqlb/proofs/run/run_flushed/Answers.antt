use Rattle.sqlb.proofs.Imports.{◌∙◌, refl, Appends-kept}
use Rattle.std.specs.Io.Buffered.{writer_buffer}
use Rattle.sqlb.specs.{output}
use Rattle.sqlb.proofs.outcomes.{appends-lost, loses_none, ran-begins, unless_write_fails}
use Rattle.sqlb.proofs.run.run_flushed.Goals as goal

pub returns-in_default-clause-ran : goal.returns-in_default-clause-ran
returns-in_default-clause-ran g c =
    let ran = c.run_input-answer.ensures.ran in
    let buffered = c.flush-flushed.new.self.inner in
    let lost = writer_buffer buffered in (
      ran.0,
      ran.1,
      lost,
      ran.2,
      appends-lost g.W.Write.contents _ buffered _ ran.1 c.into_below-below.ensures.inner
          (Appends-kept _ _ _ ran.1 ran.3 c.flush-flushed.ensures.bytes),
      ran-begins c.run_input-answer.result ran.1 (output ran.0) ran.4,
      loses_none c.flush-flushed.result _ _ lost (c.into_below-below.ensures.failed ∙ c.flush-flushed.ensures.failed) c.flush-flushed.ensures.emptied,
      tt,
    )

pub returns-in_default-2-clause-ran : goal.returns-in_default-2-clause-ran
returns-in_default-2-clause-ran g c =
    let taken = c.run_input-answer.ensures.ran in
    let buffered = c.flush-flushed.new.self.inner in
    let lost = writer_buffer buffered in (
      taken.0,
      taken.1,
      lost,
      taken.2,
      appends-lost g.W.Write.contents _ buffered _ taken.1 c.into_below-below.ensures.inner
          (Appends-kept _ _ _ taken.1 taken.3 c.flush-flushed.ensures.bytes),
      taken.4,
      loses_none c.flush-flushed.result _ _ lost (c.into_below-below.ensures.failed ∙ c.flush-flushed.ensures.failed) c.flush-flushed.ensures.emptied,
      unless_write_fails c.run_input-answer.result _ (taken.5, taken.6),
    )

pub returns-in_default-clause-write : goal.returns-in_default-clause-write
returns-in_default-clause-write g c _ =
    (λ _. c.into_below-below.ensures.failed ∙ c.flush-flushed.ensures.failed ∙ rw (← c.if-failed.ensures.failed, ← c.if-is_err.ensures.value) refl, λ _. refl)
