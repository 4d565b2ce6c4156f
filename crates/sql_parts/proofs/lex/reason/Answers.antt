use Rattle.std.proofs.Common.{◌∙◌, sym}
use Rattle.sql_parts.specs.Violations.{violation}
use Rattle.sql_parts.proofs.fragments.ViolationLemmas.{unmatched}
use Rattle.sql_parts.proofs.lex.reason.Goals as goal

pub returns-then-not-is_balanced : goal.returns-then-not-is_balanced
unfolding violation
returns-then-not-is_balanced c =
    let some = sym c.is_blank.ensures ∙ c.if-is_blank.false in
    let shut = sym c.is_closed.ensures ∙ c.if-not-is_closed.false in
    let plain = sym c.has_semicolon.ensures ∙ c.if-has_semicolon.false in
    let match = unmatched c.args.text.now some shut plain (sym c.is_balanced.ensures ∙ c.if-not-is_balanced.true) in
    simp (some, shut, plain, match)
