use Rattle.std.proofs.Common.{◌∙◌, ◌<◌, Bool, ap, arith, drop, length, refl, sym}
use Rattle.sqlb.specs.Arguments.{Remaining, remaining_of}
use Rattle.sqlb.proofs.bytes.ArgumentFacts.{behind_end, boundary_at_end, boundary_behind, line_behind, within}
use Rattle.sqlb.proofs.arguments.Arguments.others.Goals as goal

pub invariant_of-self : goal.invariant_of-self
invariant_of-self c =
    let is = rw c.as_bytes.ensures.value at c.end_at-feed.ensures in
    boundary_at_end 10 (omega arith) c.self.inside.text.now c.self.inside.at c.end_at-feed.result c.self.invariant.0 is

pub returns-then-feed-text-clause-taken : goal.returns-then-feed-text-clause-taken
returns-then-feed-text-clause-taken c =
    let is = rw c.as_bytes.ensures.value at c.end_at-feed.ensures in
    let left = sym c.self.view_is ∙ ap (λ (b : Bool). remaining_of b (drop c.self.inside.at c.self.inside.text.now)) c.if-not-self.false in
    let behind = line_behind c.self.inside.text.now c.self.inside.at c.end_at-feed.result c.self.invariant.0 is in
    let at_end = behind_end 10 (omega arith) c.self.inside.text.now c.self.inside.at c.end_at-feed.result c.self.invariant.0 is c.if-feed-text.true in
    (refl, sym at_end ∙ sym behind ∙ sym (ap (λ (l : Remaining). l.behind) left))

pub overflow_add-self : goal.overflow_add-self
overflow_add-self c =
    let is = rw c.as_bytes.ensures.value at c.end_at-feed.ensures in
    let bound = within 10 (omega arith) c.self.inside.text.now c.self.inside.at c.end_at-feed.result c.self.invariant.0 is in
    omega (arith, bound, c.if-feed-text.false, rw c.as_bytes.ensures.value at c.as_bytes.ensures.len)

pub invariant_of-self-2 : goal.invariant_of-self-2
invariant_of-self-2 c =
    let is = rw c.as_bytes.ensures.value at c.end_at-feed.ensures in
    let utf8 = c.as_bytes.ensures.utf8 in
    let bound = within 10 (omega arith) c.self.inside.text.now c.self.inside.at c.end_at-feed.result c.self.invariant.0 is in
    let inside : c.end_at-feed.result < length c.self.inside.text.now = omega (arith, bound, c.if-feed-text.false) in
    boundary_behind 10 (omega arith) c.self.inside.text.now c.self.inside.at c.end_at-feed.result c.self.invariant.0 is (rw c.as_bytes.ensures.value at utf8) inside

pub returns-clause-taken : goal.returns-clause-taken
returns-clause-taken c =
    let is = rw c.as_bytes.ensures.value at c.end_at-feed.ensures in
    let left = sym c.self.view_is ∙ ap (λ (b : Bool). remaining_of b (drop c.self.inside.at c.self.inside.text.now)) c.if-not-self.false in
    let behind = line_behind c.self.inside.text.now c.self.inside.at c.end_at-feed.result c.self.invariant.0 is in
    (refl, sym behind ∙ sym (ap (λ (l : Remaining). l.behind) left))
