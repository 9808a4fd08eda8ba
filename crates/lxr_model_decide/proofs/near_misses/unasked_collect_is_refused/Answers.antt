use Rattle.lxr_model_decide.proofs.MissLemmas.{unasked_collect_is_refused}
use Rattle.lxr_model_decide.proofs.near_misses.unasked_collect_is_refused.Goals as goal

pub returns : goal.returns
returns c = unasked_collect_is_refused
