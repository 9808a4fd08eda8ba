use Rattle.lxr_model_counting.proofs.PauseLemmas.{remaining}
use Rattle.lxr_model_counting.proofs.draining.pause_leaves_the_remaining.Goals as goal

pub returns : goal.returns
returns c = remaining
