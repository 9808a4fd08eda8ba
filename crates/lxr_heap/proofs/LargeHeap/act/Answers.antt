use Rattle.std.proofs.Common.{subst, List}
use Rattle.lxr_large_model.specs.History.{LargeItem}
use Rattle.lxr_heap.specs.Acting.{Acts}
use Rattle.lxr_heap.specs.Holding.{IsHeapOf}
use Rattle.lxr_heap.proofs.ActingLemmas.{still_holds}
use Rattle.lxr_heap.proofs.LargeHeap.act.Goals as goal

pub invariant_of-self : goal.invariant_of-self
invariant_of-self c = let (h, is) = c.self.invariant in still_holds c.self.inside.heap c.act.new.heap h c.args.op c.act.result is (c.act.ensures h is)

pub returns : goal.returns
returns c = subst (λ x. (h : List LargeItem) → IsHeapOf x h → Acts x c.act.new.heap h c.args.op c.act.result) c.self.view_is c.act.ensures
