use Rattle.lxr_pause_queue.proofs.AppendingLemmas.{entries_next}
use Rattle.lxr_pause_queue.proofs.queueing.queue_entries.Goals as goal

pub loop-number-preserved : goal.loop-number-preserved
loop-number-preserved c =
    entries_next c.args.space.now c.loop-number.space c.queue_entry.new.space c.loop-number.number c.at-entry.result c.loop-number.invariant c.at-entry.ensures c.queue_entry.ensures
