use Rattle.lxr_model_counting.proofs.PauseLemmas.{plain_pause_follows}
use Rattle.lxr_model_counting.proofs.plain_pause_restarts_following.Goals as goal

pub returns : goal.returns
returns c = plain_pause_follows
