use Rattle.lxr_core_inv_heap.proofs.LogsEventLemmas.{events_keep}
use Rattle.lxr_core_inv_heap.proofs.logs.bits_and_logs_are_kept.Goals as goal

pub returns : goal.returns
returns c = events_keep
