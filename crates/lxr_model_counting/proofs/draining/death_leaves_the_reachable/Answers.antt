use Rattle.lxr_model_counting.proofs.LeavingLemmas.{death_leaves_reachable}
use Rattle.lxr_model_counting.proofs.draining.death_leaves_the_reachable.Goals as goal

pub returns : goal.returns
returns c = death_leaves_reachable
