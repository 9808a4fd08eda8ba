use Rattle.lxr_placing.proofs.OpeningLemmas.{opened_is_quiescent}
use Rattle.lxr_placing.proofs.placing.opened_is_quiescent.Goals as goal

pub returns : goal.returns
returns c = opened_is_quiescent
