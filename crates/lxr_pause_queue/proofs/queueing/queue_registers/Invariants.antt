use Rattle.std.proofs.Common.{◌-◌, length}
use Rattle.lxr_pause_queue.proofs.AppendingLemmas.{RegistersSoFar}
use Rattle.lxr_pause_queue.proofs.queueing.queue_registers.Given as goal

abbrev pub invariant-loop-register : goal.invariant-loop-register
invariant-loop-register l = RegistersSoFar l.fn.space l.space l.register

abbrev pub decreases-loop-register : goal.decreases-loop-register
decreases-loop-register l = length l.fn.space.deferred.items - l.register
