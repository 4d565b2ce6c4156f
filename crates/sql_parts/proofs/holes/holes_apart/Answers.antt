use Rattle.sql_parts.proofs.Imports.{◌∙◌, None, Some, arith, rules, sym, split_parts}
use Rattle.sql_parts.proofs.templates.{apart-hole, apart-none}
use Rattle.sql_parts.proofs.holes.holes_apart.Goals as goal

pub returns-then-not-segment_apart : goal.returns-then-not-segment_apart
returns-then-not-segment_apart c =
    let cut = split_parts 63 c.loop-segment.rest.now (Some (c.in-Some.segment, c.in-Some.behind)) c.in-Some.ensures.cases (omega arith) in
    sym (apart-hole c.loop-segment.first _ _ cut.0 cut.1 (sym c.segment_apart.ensures ∙ c.if-not-segment_apart.true)) ∙ c.loop-segment.invariant.1

pub loop-segment-preserved : goal.loop-segment-preserved
loop-segment-preserved c =
    let cut = split_parts 63 c.loop-segment.rest.now (Some (c.in-Some.segment, c.in-Some.behind)) c.in-Some.ensures.cases (omega arith) in
    let next = sym (apart-hole c.loop-segment.first _ _ cut.0 cut.1 (sym c.segment_apart.ensures ∙ c.if-not-segment_apart.false)) in
    (search rules, next ∙ c.loop-segment.invariant.1)

pub returns : goal.returns
returns c =
    let none = split_parts 63 c.loop-segment.rest.now None c.in_default.ensures.cases (omega arith) in
    c.segment_apart-2.ensures ∙ sym (apart-none c.loop-segment.first c.loop-segment.rest.now none) ∙ c.loop-segment.invariant.1
