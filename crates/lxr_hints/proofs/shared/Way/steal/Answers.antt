use Rattle.lxr_hints.proofs.Rules.{stolen_is, takes_first}
use Rattle.lxr_hints.proofs.shared.Way.steal.Goals as goal

pub steal_as-requires-clause-takes : goal.steal_as-requires-clause-takes
steal_as-requires-clause-takes g c = takes_first _ _ _ _ c.requires.leaves

pub returns-clause-stolen : goal.returns-clause-stolen
returns-clause-stolen g c = let (got, known) = stolen_is _ _ _ c.steal_as.result c.success.result _ _ c.success.ensures c.steal_as.ensures.rule in record { got = got; known = known }
