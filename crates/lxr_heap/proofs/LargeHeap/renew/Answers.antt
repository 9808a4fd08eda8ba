use Rattle.std.proofs.Common.{subst, List, ◌∷◌}
use Rattle.lxr_large_model.specs.History.{LargeItem, Renewed}
use Rattle.lxr_heap.specs.Holding.{IsHeapOf}
use Rattle.lxr_heap.specs.Renewing.{RenewsHeap}
use Rattle.lxr_heap.proofs.LargeHeap.renew.Goals as goal

pub invariant_of-self : goal.invariant_of-self
invariant_of-self c = let (h, is) = c.self.invariant in let then = c.renew.ensures h is in (Renewed then.names ∷ h, then.holds)

pub returns : goal.returns
returns c = subst (λ x. (h : List LargeItem) → IsHeapOf x h → RenewsHeap x c.renew.new.heap h) c.self.view_is c.renew.ensures
