use Rattle.lxr_pause_queue.proofs.AppendingLemmas.{EntriesSoFar}
use Rattle.lxr_pause_queue.proofs.queueing.queue_entries.Given as goal

abbrev pub invariant-loop-number : goal.invariant-loop-number
invariant-loop-number l = EntriesSoFar l.initial.space l.space l.number
