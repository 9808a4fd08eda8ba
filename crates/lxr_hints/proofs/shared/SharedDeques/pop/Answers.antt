use Rattle.lxr_hints.proofs.Rules.{takes_first}
use Rattle.lxr_hints.proofs.shared.SharedDeques.pop.Goals as goal

pub pop_as-requires-clause-fifo : goal.pop_as-requires-clause-fifo
pop_as-requires-clause-fifo g c fifo = takes_first _ _ _ _ c.requires.holds.leaves
