use Rattle.sqlb.proofs.bytes.{ends_before_invalid_line, text_utf8, no_fault}
use Rattle.sqlb.proofs.text.lines_before.Goals as goal

pub unreachable-requires : goal.unreachable-requires
unreachable-requires c =
    let found = c.end_of_lines-end.ensures in
    no_fault _ _ (text_utf8 c.args.input.now c.end_of_lines-end.result c.args.valid c.requires found.within found.feed found.last) c.in-Err.ensures

pub returns : goal.returns
returns c =
    let found = c.end_of_lines-end.ensures in
    rw c.in-Ok.ensures (ends_before_invalid_line c.args.input.now c.end_of_lines-end.result c.args.valid c.requires found.within found.feed found.last)
