use Rattle.std.proofs.Common.{codes, pos, refl}
use base.Stored.{coded_ℕ}
use Rattle.sql_parts.specs.Literal.{whole}
use Rattle.sql_parts.proofs.templates.CallerFacts.{binds_in_turn, reads_borrowed, reads_none, reads_pushed}
use Rattle.callers.proofs.values.between.Goals as goal

pub returns-clause-text : goal.returns-clause-text
returns-clause-text c =
    binds_in_turn c.binds.result (codes "price BETWEEN ? AND ?") c.binds.ensures.text
    (reads_borrowed c.as_slice.ensures.value
    (reads_pushed c.into_dyn_box-in_ok-new-2.result coded_ℕ (λ n. whole (pos n)) c.in_ok-push-2.ensures.items c.into_dyn_box-in_ok-new-2.ensures.1
    c.in_ok-new-2.ensures.ok refl
    (reads_pushed c.into_dyn_box.result coded_ℕ (λ n. whole (pos n)) c.in_ok-push.ensures.items c.into_dyn_box.ensures.1 c.in_ok-new.ensures.ok refl
    (reads_none c.new-args.ensures.items))))
