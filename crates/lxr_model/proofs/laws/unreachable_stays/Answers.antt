use Rattle.lxr_model.proofs.ObjectLemmas.{unreachable_stays}
use Rattle.lxr_model.proofs.laws.unreachable_stays.Goals as goal

pub returns : goal.returns
returns c = unreachable_stays
