use Rattle.std.proofs.Common.{subst}
use Rattle.lxr_shared_heap.specs.Heaps.{IsPassOf}
use Rattle.lxr_shared_heap.proofs.heap.Stage.paused.Goals as goal

pub close_and_pause-requires-clause-handed : goal.close_and_pause-requires-clause-handed
close_and_pause-requires-clause-handed w c = λ number s at. subst (λ x. IsPassOf x number s) c.in-Within.is (c.requires.handed number s at)
