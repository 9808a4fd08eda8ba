use Rattle.std.proofs.Common.{refl}
use Rattle.lxr_pause_trace.proofs.ScanLemmas.{emptied, popped}
use Rattle.lxr_pause_trace.proofs.finish.empty_worklist.Goals as goal

pub scan-requires : goal.scan-requires
scan-requires c = (
  c.requires.0,
  popped c.loop-place.space (record c.loop-place.space { work = c.pop.new.self }) c.in-Some.place c.in-Some.ensures refl c.requires.0 (c.loop-place.invariant c.requires.0 c.requires.1),
)

pub loop-place-preserved : goal.loop-place-preserved
loop-place-preserved c = λ before is.
    c.scan.ensures.scans before (popped c.loop-place.space (record c.loop-place.space { work = c.pop.new.self }) c.in-Some.place c.in-Some.ensures refl before (c.loop-place.invariant before is))

pub returns : goal.returns
returns c = λ before is. emptied before c.loop-place.space c.pop.new.self c.in_default.ensures.0 c.in_default.ensures.1 (c.loop-place.invariant before is)
