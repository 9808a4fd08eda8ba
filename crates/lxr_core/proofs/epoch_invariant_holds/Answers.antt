use Rattle.lxr_core.proofs.ExecutionLemmas.{epoch_invariant_holds}
use Rattle.lxr_core.proofs.epoch_invariant_holds.Goals as goal

-- the law
pub returns : goal.returns
returns c = epoch_invariant_holds
