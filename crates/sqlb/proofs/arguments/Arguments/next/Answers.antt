use Rattle.std.proofs.Common.{◌∙◌, ◌<◌, Bool, ap, arith, drop, length, sym}
use Rattle.sqlb.specs.Arguments.{Remaining, remaining_of}
use Rattle.sqlb.proofs.bytes.ArgumentFacts.{boundary_at_end, boundary_behind, steps_on, steps_to_end, within}
use Rattle.sqlb.proofs.arguments.Arguments.next.Goals as goal

pub range-part-requires-clause-end_boundary : goal.range-part-requires-clause-end_boundary
range-part-requires-clause-end_boundary c =
    let is = rw c.as_bytes.ensures.value at c.end_at-end.ensures in
    boundary_at_end 9 (omega arith) c.self.inside.text.now c.self.inside.at c.end_at-end.result c.self.invariant.0 is

pub returns-then-end-text : goal.returns-then-end-text
returns-then-end-text c =
    let is = rw c.as_bytes.ensures.value at c.end_at-end.ensures in
    let step = steps_to_end c.self.inside.text.now c.self.inside.at c.end_at-end.result c.self.invariant.0 is c.if-end-text.true in
    let left = sym c.self.view_is ∙ ap (λ (b : Bool). remaining_of b (drop c.self.inside.at c.self.inside.text.now)) c.if-not-self.false ∙ step in
    record { next = rw c.range-part.ensures.value (ap (λ (l : Remaining). l.parts) left); behind = sym (ap (λ (l : Remaining). l.behind) left) }

pub invariant_of-self-2 : goal.invariant_of-self-2
invariant_of-self-2 c =
    let is = rw c.as_bytes.ensures.value at c.end_at-end.ensures in
    let utf8 = rw c.as_bytes-2.ensures.value at c.as_bytes-2.ensures.utf8 in
    let bound = within 9 (omega arith) c.self.inside.text.now c.self.inside.at c.end_at-end.result c.self.invariant.0 is in
    let inside : c.end_at-end.result < length c.self.inside.text.now = omega (arith, bound, c.if-end-text.false) in
    boundary_behind 9 (omega arith) c.self.inside.text.now c.self.inside.at c.end_at-end.result c.self.invariant.0 is utf8 inside

pub returns : goal.returns
returns c =
    let is = rw c.as_bytes.ensures.value at c.end_at-end.ensures in
    let step = steps_on c.self.inside.text.now c.self.inside.at c.end_at-end.result c.self.invariant.0 is in
    let left = sym c.self.view_is ∙ ap (λ (b : Bool). remaining_of b (drop c.self.inside.at c.self.inside.text.now)) c.if-not-self.false ∙ step in
    record {
      next = rw (c.range-part.ensures.value, c.as_bytes-2.ensures.value) (ap (λ (l : Remaining). l.parts) left);
      behind = rw c.as_bytes-2.ensures.value (sym (ap (λ (l : Remaining). l.behind) left));
    }
