use Rattle.lxr_model_counting.proofs.FollowingLemmas.{joined_closed}
use Rattle.lxr_model_counting.proofs.draining.promotion_joins_the_reachable.Goals as goal

pub returns : goal.returns
returns c = joined_closed
