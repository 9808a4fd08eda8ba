use Rattle.lxr_core_close.proofs.ProgressLemmas.{epoch_has_progress}
use Rattle.lxr_core_close.proofs.laws.epoch_has_progress.Goals as goal

pub returns : goal.returns
returns c = epoch_has_progress
