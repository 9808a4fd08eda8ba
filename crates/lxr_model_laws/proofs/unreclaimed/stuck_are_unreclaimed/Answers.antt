use Rattle.lxr_model_laws.proofs.ClosedLemmas.{stuck_unreclaimed}
use Rattle.lxr_model_laws.proofs.unreclaimed.stuck_are_unreclaimed.Goals as goal

pub returns : goal.returns
returns c = stuck_unreclaimed
