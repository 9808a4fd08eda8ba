use Rattle.lxr_model_laws.proofs.TraceLemmas.{garbage_stays}
use Rattle.lxr_model_laws.proofs.unreclaimed.garbage_stays.Goals as goal

pub returns : goal.returns
returns c = garbage_stays
