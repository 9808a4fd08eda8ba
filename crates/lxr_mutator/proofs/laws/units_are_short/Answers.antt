use Rattle.lxr_mutator.proofs.LengthLemmas.{units_short}
use Rattle.lxr_mutator.proofs.laws.units_are_short.Goals as goal

pub returns : goal.returns
returns c = units_short
