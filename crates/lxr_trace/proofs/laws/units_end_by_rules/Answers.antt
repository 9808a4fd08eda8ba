use Rattle.lxr_trace.proofs.UnitLemmas.{end_by_rules}
use Rattle.lxr_trace.proofs.laws.units_end_by_rules.Goals as goal

pub returns : goal.returns
returns c = end_by_rules
