use Rattle.lxr_model_laws.proofs.ClosedLemmas.{unreclaimed_closed}
use Rattle.lxr_model_laws.proofs.unreclaimed.unreclaimed_are_closed.Goals as goal

pub returns : goal.returns
returns c = unreclaimed_closed
