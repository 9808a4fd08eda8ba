use Rattle.lxr_rounds_invariant.proofs.EpochLemmas.{epochs_run}
use Rattle.lxr_rounds_invariant.proofs.epochs_run.Goals as goal

pub returns : goal.returns
returns c = epochs_run
