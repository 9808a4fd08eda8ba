use Rattle.lxr_core_inv_counts.proofs.KeepingLemmas.{closing_counts}
use Rattle.lxr_core_inv_counts.proofs.closing_counts.Goals as goal

pub returns : goal.returns
returns c = closing_counts
