use Rattle.lxr_core_inv_counts.proofs.KeepingLemmas.{decrementers_keep_counts}
use Rattle.lxr_core_inv_counts.proofs.decrementers_keep_counts.Goals as goal

pub returns : goal.returns
returns c = decrementers_keep_counts
