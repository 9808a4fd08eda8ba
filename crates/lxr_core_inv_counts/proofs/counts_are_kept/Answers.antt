use Rattle.lxr_core_inv_counts.proofs.KeepingLemmas.{counts_are_kept}
use Rattle.lxr_core_inv_counts.proofs.counts_are_kept.Goals as goal

pub returns : goal.returns
returns c = counts_are_kept
