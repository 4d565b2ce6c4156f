use Rattle.std.proofs.Common.{refl}
use Rattle.sqlb.proofs.bytes.LineFacts.{reads_line}
use Rattle.sqlb.proofs.arguments.Arguments.next_line.Goals as goal

pub returns-clause-line : goal.returns-clause-line
returns-clause-line c =
    let utf8 = rw c.as_bytes.ensures.value at c.as_bytes.ensures.utf8 in
    let taken = rw (← c.self.view_is) at c.requires.taken in
    let inside = c.self.inside in
    rw (c.as_bytes.ensures.value, ← c.self.view_is) (reads_line inside.text.now inside.at utf8 c.self.invariant inside.in_line _ taken refl)
