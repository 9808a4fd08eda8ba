use Rattle.lxr_model_counting.proofs.FollowingLemmas.{call_follows}
use Rattle.lxr_model_counting.proofs.call_keeps_following.Goals as goal

pub returns : goal.returns
returns c = call_follows
