use Rattle.std.proofs.Common.{◌≡◌, subst, false, List}
use Rattle.std.specs.Prelude.{IsTrue}
use Rattle.lxr_graph.specs.declared.Op.TheVariants as op
use Rattle.lxr_large_model.specs.History.{LargeItem}
use Rattle.lxr_heap.specs.Holding.{IsHeapOf}
use Rattle.lxr_heap.specs.Trying.{Does, Misses}
use Rattle.lxr_heap.proofs.TryingLemmas.{tried_holds}
use Rattle.lxr_heap.proofs.LargeHeap.try_load.Goals as goal

pub invariant_of-self : goal.invariant_of-self
invariant_of-self c = let (h, is) = c.self.invariant in tried_holds c.self.inside.heap c.load.new.heap h (op.Load c.args.dest c.args.base c.args.index) c.load.result is c.load.ensures.done c.load.ensures.unchanged

pub returns-clause-done : goal.returns-clause-done
returns-clause-done c = subst (λ x. IsTrue c.load.result → Does x c.load.new.heap (op.Load c.args.dest c.args.base c.args.index)) c.self.view_is c.load.ensures.done

pub returns-clause-misses : goal.returns-clause-misses
returns-clause-misses c = subst (λ x. c.load.result ≡ false → (h : List LargeItem) → IsHeapOf x h → Misses h (op.Load c.args.dest c.args.base c.args.index)) c.self.view_is c.load.ensures.misses

pub returns-clause-unchanged : goal.returns-clause-unchanged
returns-clause-unchanged c = subst (λ x. c.load.result ≡ false → c.load.new.heap ≡ x) c.self.view_is c.load.ensures.unchanged
