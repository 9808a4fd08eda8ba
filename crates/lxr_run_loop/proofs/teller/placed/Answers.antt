use Rattle.std.proofs.Common.{◌∙◌, arith, length-set}
use Rattle.lxr_run_loop.proofs.OrderLemmas.{counted_next}
use Rattle.lxr_run_loop.proofs.teller.placed.Goals as goal

pub loop-number-preserved : goal.loop-number-preserved
loop-number-preserved c =
    let (many, before) = c.loop-number.invariant in
    let below = c.loop-number-test.true in
    (length-set c.loop-number.counts c.loop-number.number c.placed_at.result ∙ many, counted_next c.args.actors.now c.loop-number.counts c.loop-number.number c.placed_at.result (omega (arith, many, below)) c.placed_at.ensures before)
