use Rattle.lxr_mutator.proofs.UnitLemmas.{units_end}
use Rattle.lxr_mutator.proofs.laws.units_end_by_rules.Goals as goal

pub returns : goal.returns
returns c = units_end
