use Rattle.lxr_model_counting.proofs.PauseLemmas.{restarts}
use Rattle.lxr_model_counting.proofs.draining.pause_restarts_following.Goals as goal

pub returns : goal.returns
returns c = restarts
