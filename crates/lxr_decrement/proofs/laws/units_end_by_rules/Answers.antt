use Rattle.lxr_decrement.proofs.UnitLemmas.{end_by_rules}
use Rattle.lxr_decrement.proofs.laws.units_end_by_rules.Goals as goal

pub returns : goal.returns
returns c = end_by_rules
