use Rattle.lxr_mutator.proofs.OrderLemmas.{orders_by_rule}
use Rattle.lxr_mutator.proofs.laws.mutators_take_orders_by_rule.Goals as goal

pub returns : goal.returns
returns c = orders_by_rule
