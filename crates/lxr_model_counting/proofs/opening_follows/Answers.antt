use Rattle.lxr_model_counting.proofs.FollowingLemmas.{opening_follows}
use Rattle.lxr_model_counting.proofs.opening_follows.Goals as goal

pub returns : goal.returns
returns c = opening_follows
