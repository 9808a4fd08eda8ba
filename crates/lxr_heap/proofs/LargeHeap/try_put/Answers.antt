use Rattle.std.proofs.Common.{◌≡◌, subst, false, List}
use Rattle.std.specs.Prelude.{IsTrue}
use Rattle.lxr_graph.specs.declared.Op.TheVariants as op
use Rattle.lxr_large_model.specs.History.{LargeItem}
use Rattle.lxr_heap.specs.Holding.{IsHeapOf}
use Rattle.lxr_heap.specs.Trying.{Does, Misses}
use Rattle.lxr_heap.proofs.TryingLemmas.{tried_holds}
use Rattle.lxr_heap.proofs.LargeHeap.try_put.Goals as goal

pub invariant_of-self : goal.invariant_of-self
invariant_of-self c = let (h, is) = c.self.invariant in tried_holds c.self.inside.heap c.put.new.heap h (op.Put c.args.base c.args.index c.args.value) c.put.result is c.put.ensures.done c.put.ensures.unchanged

pub returns-clause-done : goal.returns-clause-done
returns-clause-done c = subst (λ x. IsTrue c.put.result → Does x c.put.new.heap (op.Put c.args.base c.args.index c.args.value)) c.self.view_is c.put.ensures.done

pub returns-clause-misses : goal.returns-clause-misses
returns-clause-misses c = subst (λ x. c.put.result ≡ false → (h : List LargeItem) → IsHeapOf x h → Misses h (op.Put c.args.base c.args.index c.args.value)) c.self.view_is c.put.ensures.misses

pub returns-clause-unchanged : goal.returns-clause-unchanged
returns-clause-unchanged c = subst (λ x. c.put.result ≡ false → c.put.new.heap ≡ x) c.self.view_is c.put.ensures.unchanged
