use Rattle.lxr_model_laws.proofs.ClosedLemmas.{unreclaimed_were}
use Rattle.lxr_model_laws.proofs.unreclaimed.unreclaimed_were_so_or_are_younger.Goals as goal

pub returns : goal.returns
returns c = unreclaimed_were
