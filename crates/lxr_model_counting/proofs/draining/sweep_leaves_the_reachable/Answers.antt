use Rattle.lxr_model_counting.proofs.LeavingLemmas.{sweep_leaves_reachable}
use Rattle.lxr_model_counting.proofs.draining.sweep_leaves_the_reachable.Goals as goal

pub returns : goal.returns
returns c = sweep_leaves_reachable
