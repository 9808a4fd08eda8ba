use Rattle.std.proofs.Common.{take, drop, arith, length-drop}
use Rattle.lxr_text_stream.proofs.StreamLemmas.{Appends-append, take_take, slice_tail}
use Rattle.lxr_text_stream.proofs.transfer.put_all.Goals as goal

pub loop-at-preserved : goal.loop-at-preserved
loop-at-preserved g c =
    let bytes = c.args.bytes.now in
    let at = c.loop-at.at in
    let told = rw (slice_tail bytes at) at c.in-Bytes.ensures.writes in
    record {
      within = omega (arith, told.1, length-drop at bytes);
      appended = rw (take_take bytes at c.in-Bytes.n) at (Appends-append _ _ _ (take at bytes) (take c.in-Bytes.n (drop at bytes)) c.loop-at.invariant.appended told.2);
      faults = omega (arith, c.in-Bytes.ensures.faults);
    }
