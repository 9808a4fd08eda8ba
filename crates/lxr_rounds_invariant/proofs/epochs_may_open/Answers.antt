use Rattle.lxr_rounds_invariant.proofs.EpochLemmas.{may_open}
use Rattle.lxr_rounds_invariant.proofs.epochs_may_open.Goals as goal

pub returns : goal.returns
returns c = may_open
