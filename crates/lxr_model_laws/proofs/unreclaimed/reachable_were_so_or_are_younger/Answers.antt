use Rattle.lxr_model_laws.proofs.ClosedLemmas.{reachable_were}
use Rattle.lxr_model_laws.proofs.unreclaimed.reachable_were_so_or_are_younger.Goals as goal

pub returns : goal.returns
returns c = reachable_were
