use Rattle.lxr_shared_heap.proofs.TellingLemmas.{mutators_have_limits as limits}
use Rattle.lxr_shared_heap.proofs.heap.mutators_have_limits.Goals as goal

pub returns : goal.returns
returns c = limits
