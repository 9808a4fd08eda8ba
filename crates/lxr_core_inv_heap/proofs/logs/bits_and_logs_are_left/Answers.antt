use Rattle.lxr_core_inv_heap.proofs.LogsLeftLemmas.{bits_and_logs_are_left}
use Rattle.lxr_core_inv_heap.proofs.logs.bits_and_logs_are_left.Goals as goal

pub returns : goal.returns
returns c = bits_and_logs_are_left
