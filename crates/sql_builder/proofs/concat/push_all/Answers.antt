use Rattle.std.proofs.Common.{arith, ap, length, length-append, []}
use Rattle.sql_builder.proofs.output.LoopFacts.{within}
use Rattle.sql_builder.proofs.concat.push_all.Goals as goal

pub push_text-requires : goal.push_text-requires
push_text-requires c =
    let before = ap length c.loop-part.invariant.0 in
    let all = within (λ part. part.0.now) c.args.parts.now c.loop-part.part-index (record { 0 = record { ref_ptr = (0, 0); now = [] } })
    c.loop-part-test.true in
    record { room = grind (arith, length-append, before, all, c.loop-part.invariant.1, c.loop-part.out.bytes.ok.0, c.args.out.now.bytes.ok.0, c.requires.room) }
