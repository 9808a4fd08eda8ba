use Rattle.lxr_model_decide.proofs.MissLemmas.{one_pause_behind_the_last_end}
use Rattle.lxr_model_decide.proofs.near_misses.one_pause_behind_the_last_end.Goals as goal

pub returns : goal.returns
returns c = one_pause_behind_the_last_end
