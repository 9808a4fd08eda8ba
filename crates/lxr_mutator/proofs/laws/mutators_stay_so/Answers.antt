use Rattle.lxr_mutator.proofs.StayLemmas.{stay_so}
use Rattle.lxr_mutator.proofs.laws.mutators_stay_so.Goals as goal

pub returns : goal.returns
returns c = stay_so
