use Rattle.std.proofs.lemmas.Result.{err_from_is_err_and}
use Rattle.sqlb.proofs.bytes.StreamFacts.{fails_after, parts_at}
use Rattle.sqlb.proofs.output.write_parts.Goals as goal

pub returns-in_err-write_all-clause-wrote : goal.returns-in_err-write_all-clause-wrote
returns-in_err-write_all-clause-wrote g c =
    let p = err_from_is_err_and c.from_residual.result c.from_residual.ensures.1 in
    fails_after _ _ _ _ _ _ _ _ _ _ c.loop-part.invariant.3 (parts_at (λ part. part.now) c.args.parts.now c.loop-part.part-index _ c.loop-part-test.true)
    c.in_err-write_all.ensures.wrote (rw (p.1, p.2))
