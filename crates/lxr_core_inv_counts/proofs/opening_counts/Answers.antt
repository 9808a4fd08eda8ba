use Rattle.lxr_core_inv_counts.proofs.KeepingLemmas.{opening_counts}
use Rattle.lxr_core_inv_counts.proofs.opening_counts.Goals as goal

pub returns : goal.returns
returns c = opening_counts
