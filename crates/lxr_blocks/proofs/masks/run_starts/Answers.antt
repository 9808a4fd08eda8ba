use Rattle.std.proofs.Common.{arith}
use Rattle.lxr_blocks.proofs.MaskLemmas.{more_starts}
use Rattle.lxr_blocks.proofs.masks.run_starts.Goals as goal

pub loop-known-preserved : goal.loop-known-preserved
loop-known-preserved c =
    let before = c.loop-known.invariant in
    let step = c.min-step.ensures in
    let some = before.some in let within = before.within in
    record {
      some = omega arith;
      within = omega arith;
      starts = more_starts c.args.mask c.loop-known.starts c.loop-known.known c.min-step.result (omega arith) before.starts;
    }
