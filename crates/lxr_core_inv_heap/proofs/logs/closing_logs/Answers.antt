use Rattle.lxr_core_inv_heap.proofs.LogsClosingLemmas.{closing_logs}
use Rattle.lxr_core_inv_heap.proofs.logs.closing_logs.Goals as goal

pub returns : goal.returns
returns c = closing_logs
