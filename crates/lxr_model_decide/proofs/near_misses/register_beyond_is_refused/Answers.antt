use Rattle.lxr_model_decide.proofs.MissLemmas.{register_beyond_is_refused}
use Rattle.lxr_model_decide.proofs.near_misses.register_beyond_is_refused.Goals as goal

pub returns : goal.returns
returns c = register_beyond_is_refused
