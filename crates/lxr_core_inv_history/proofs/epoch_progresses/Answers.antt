use Rattle.lxr_core_inv_history.proofs.ProgressLemmas.{epoch_progresses}
use Rattle.lxr_core_inv_history.proofs.epoch_progresses.Goals as goal

pub returns : goal.returns
returns c = epoch_progresses
