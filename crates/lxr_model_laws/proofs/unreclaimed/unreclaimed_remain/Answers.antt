use Rattle.lxr_model_laws.proofs.ClosedLemmas.{remain}
use Rattle.lxr_model_laws.proofs.unreclaimed.unreclaimed_remain.Goals as goal

pub returns : goal.returns
returns c = remain
