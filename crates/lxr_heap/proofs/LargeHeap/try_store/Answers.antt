use Rattle.std.proofs.Common.{◌≡◌, subst, false, List}
use Rattle.std.specs.Prelude.{IsTrue}
use Rattle.lxr_graph.specs.declared.Op.TheVariants as op
use Rattle.lxr_large_model.specs.History.{LargeItem}
use Rattle.lxr_heap.specs.Holding.{IsHeapOf}
use Rattle.lxr_heap.specs.Trying.{Does, StaysAside}
use Rattle.lxr_heap.proofs.TryingLemmas.{tried_holds}
use Rattle.lxr_heap.proofs.LargeHeap.try_store.Goals as goal

pub invariant_of-self : goal.invariant_of-self
invariant_of-self c = let (h, is) = c.self.invariant in tried_holds c.self.inside.heap c.store.new.heap h (op.Store c.args.base c.args.index c.args.source) c.store.result is c.store.ensures.done c.store.ensures.unchanged

pub returns-clause-done : goal.returns-clause-done
returns-clause-done c = subst (λ x. IsTrue c.store.result → Does x c.store.new.heap (op.Store c.args.base c.args.index c.args.source)) c.self.view_is c.store.ensures.done

pub returns-clause-aside : goal.returns-clause-aside
returns-clause-aside c = subst (λ x. c.store.result ≡ false → (h : List LargeItem) → IsHeapOf x h → StaysAside h c.args.base c.args.index c.args.source) c.self.view_is c.store.ensures.aside

pub returns-clause-unchanged : goal.returns-clause-unchanged
returns-clause-unchanged c = subst (λ x. c.store.result ≡ false → c.store.new.heap ≡ x) c.self.view_is c.store.ensures.unchanged
