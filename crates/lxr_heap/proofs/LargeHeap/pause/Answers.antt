use Rattle.std.proofs.Common.{subst, List, ◌∷◌}
use Rattle.lxr_graph.specs.History.{report_of}
use Rattle.lxr_large_model.specs.History.{LargeItem, Paused}
use Rattle.lxr_heap.specs.Holding.{IsHeapOf}
use Rattle.lxr_heap.specs.Pausing.{PausesHeap}
use Rattle.lxr_heap.proofs.LargeHeap.pause.Goals as goal

pub invariant_of-self : goal.invariant_of-self
invariant_of-self c = let (h, is) = c.self.invariant in (Paused (report_of c.pause.new.heap.space.report) ∷ h, (c.pause.ensures.pauses h is).holds)

pub returns-clause-pauses : goal.returns-clause-pauses
returns-clause-pauses c = subst (λ x. (h : List LargeItem) → IsHeapOf x h → PausesHeap x c.pause.new.heap h c.args.collect) c.self.view_is c.pause.ensures.pauses
