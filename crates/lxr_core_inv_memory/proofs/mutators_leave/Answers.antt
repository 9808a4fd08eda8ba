use Rattle.lxr_core_inv_memory.proofs.FixedLemmas.{mutators_leave}
use Rattle.lxr_core_inv_memory.proofs.mutators_leave.Goals as goal

pub returns : goal.returns
returns c = mutators_leave
