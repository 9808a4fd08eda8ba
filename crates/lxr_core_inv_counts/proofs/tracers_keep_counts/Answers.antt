use Rattle.lxr_core_inv_counts.proofs.KeepingLemmas.{tracers_keep_counts}
use Rattle.lxr_core_inv_counts.proofs.tracers_keep_counts.Goals as goal

pub returns : goal.returns
returns c = tracers_keep_counts
