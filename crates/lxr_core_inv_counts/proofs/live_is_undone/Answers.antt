use Rattle.lxr_core_inv_counts.proofs.KeepingLemmas.{live_is_undone}
use Rattle.lxr_core_inv_counts.proofs.live_is_undone.Goals as goal

pub returns : goal.returns
returns c = live_is_undone
