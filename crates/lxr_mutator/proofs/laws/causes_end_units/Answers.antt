use Rattle.lxr_mutator.proofs.CauseLemmas.{causes_end}
use Rattle.lxr_mutator.proofs.laws.causes_end_units.Goals as goal

pub returns : goal.returns
returns c = causes_end
