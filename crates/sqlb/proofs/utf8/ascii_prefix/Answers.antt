use Rattle.std.proofs.Common.{◌≡◌, ◌+◌, arith}
use Rattle.sqlb.proofs.bytes.Utf8Facts.{text_more}
use Rattle.sqlb.proofs.utf8.ascii_prefix.Goals as goal

pub loop-at-preserved : goal.loop-at-preserved
loop-at-preserved c =
    let at = c.loop-at.at in
    let first = text_more c.args.bytes.now at 64 c.loop-at.invariant.1 (c.is_ascii.ensures c.if-not-is_ascii.false) in
    let second = text_more c.args.bytes.now (at + 64) 64 first (c.is_ascii-in-loop-at.ensures c.if-not-is_ascii-2.false) in
    let both : at + 64 + 64 ≡ at + 128 = omega arith in
    (omega arith, rw both at second)
