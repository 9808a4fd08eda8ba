use Rattle.lxr_model_counting.proofs.DeathLemmas.{death_leaves}
use Rattle.lxr_model_counting.proofs.death_leaves_the_living.Goals as goal

pub returns : goal.returns
returns c = death_leaves
