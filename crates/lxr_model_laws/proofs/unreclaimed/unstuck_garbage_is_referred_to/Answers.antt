use Rattle.lxr_model_laws.proofs.TraceLemmas.{unstuck_referred}
use Rattle.lxr_model_laws.proofs.unreclaimed.unstuck_garbage_is_referred_to.Goals as goal

pub returns : goal.returns
returns c = unstuck_referred
