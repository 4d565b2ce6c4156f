use Rattle.sql_parts.proofs.Imports.{◌≡◌, ◌++◌, ◌<◌, ℕ, arith, length, rules, subst, LacksTextAt}
use Rattle.sql_parts.specs.{marks_of}
use Rattle.sql_parts.proofs.templates.{resolved_from-after_first, resolved_from-none, resolved_from-split}
use Rattle.sql_parts.proofs.placeholders.first_place.Goals as goal

pub returns-in-First-clause-found : goal.returns-in-First-clause-found
returns-in-First-clause-found c =
    rw c.in-First.is (resolved_from-after_first c.args.seen c.args.text.now (omega arith))

pub returns-in_err-segment-in_default-clause-found : goal.returns-in_err-segment-in_default-clause-found
returns-in_err-segment-in_default-clause-found c =
    let none = resolved_from-none (marks_of c.args.marks) c.args.seen c.args.text.now
    (λ k _. subst (λ o. LacksTextAt o c.args.text.now k) c.requires.prefix (c.in_err-segment-in_default.ensures k)) in
    search (rules, none)

pub returns-in_ok-segment-in_default-clause-found : goal.returns-in_ok-segment-in_default-clause-found
returns-in_ok-segment-in_default-clause-found c =
    let marks = marks_of c.args.marks in
    let found = c.in_ok-segment-in_default in
    let split = subst (λ o. c.args.text.now ≡ found.segment.now ++ (o ++ found.behind.now)) c.requires.prefix found.ensures.0 in
    let lacks = λ (k : ℕ) (below : k < length found.segment.now). subst (λ o. LacksTextAt o c.args.text.now k) c.requires.prefix (found.ensures.1 k below) in
    rw (c.place_behind.ensures.0, c.place_behind.ensures.1)
    (resolved_from-split marks c.args.seen c.args.text.now found.segment.now found.behind.now split lacks)
