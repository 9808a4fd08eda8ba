use Rattle.std.proofs.Common.{◌≡◌, ◌⊎◌, subst, false}
use Rattle.std.specs.Prelude.{IsTrue}
use Rattle.lxr_direct.specs.Through.{IsInUse, IsUnloggedThrough, LacksThrough}
use Rattle.lxr_heap.specs.declared.heap.Heap.{Heap}
use Rattle.lxr_heap.specs.Through.{StoresThrough}
use Rattle.lxr_heap.proofs.ThroughLemmas.{stores_hold}
use Rattle.lxr_heap.proofs.LargeHeap.try_store_through.Goals as goal

pub invariant_of-self : goal.invariant_of-self
invariant_of-self c =
    let (h, is) = c.self.invariant in
    stores_hold c.self.inside.heap c.store.new.heap h c.args.object.register c.args.at c.args.index c.args.source c.args.own c.store.result is c.store.ensures.stored c.store.ensures.unchanged

pub returns-clause-stored : goal.returns-clause-stored
returns-clause-stored c = subst (λ x. IsTrue c.store.result → StoresThrough x c.store.new.heap c.args.object.register c.args.at c.args.index c.args.source c.args.own) c.self.view_is c.store.ensures.stored

pub returns-clause-aside : goal.returns-clause-aside
returns-clause-aside c =
    subst (λ (x : Heap). c.store.result ≡ false → IsInUse x.space 1 c.args.own ⊎ LacksThrough x.space c.args.object c.args.at c.args.index ⊎ IsUnloggedThrough x.space c.args.object c.args.at c.args.index) c.self.view_is
    c.store.ensures.aside

pub returns-clause-unchanged : goal.returns-clause-unchanged
returns-clause-unchanged c = subst (λ x. c.store.result ≡ false → c.store.new.heap ≡ x) c.self.view_is c.store.ensures.unchanged
