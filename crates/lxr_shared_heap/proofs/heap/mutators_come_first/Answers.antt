use Rattle.lxr_shared_heap.proofs.TellingLemmas.{mutators_come_first as first}
use Rattle.lxr_shared_heap.proofs.heap.mutators_come_first.Goals as goal

pub returns : goal.returns
returns c = first
