use Rattle.lxr_run_threads.proofs.OpenedLemmas.{opened_can_run}
use Rattle.lxr_run_threads.proofs.opened_epochs_can_run.Goals as goal

pub returns : goal.returns
returns c = opened_can_run
