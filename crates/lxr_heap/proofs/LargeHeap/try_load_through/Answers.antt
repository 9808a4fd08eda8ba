use Rattle.std.proofs.Common.{◌≡◌, ◌⊎◌, subst, false}
use Rattle.std.specs.Prelude.{IsTrue}
use Rattle.lxr_direct.specs.Through.{IsInUse, LacksThrough}
use Rattle.lxr_heap.specs.declared.heap.Heap.{Heap}
use Rattle.lxr_heap.specs.Through.{LoadsThrough}
use Rattle.lxr_heap.proofs.ThroughLemmas.{loads_hold}
use Rattle.lxr_heap.proofs.LargeHeap.try_load_through.Goals as goal

pub invariant_of-self : goal.invariant_of-self
invariant_of-self c =
    let (h, is) = c.self.invariant in
    loads_hold c.self.inside.heap c.load.new.heap h c.args.dest c.args.object.register c.args.at c.args.index c.args.own c.load.result is c.load.ensures.loaded c.load.ensures.unchanged

pub returns-clause-loaded : goal.returns-clause-loaded
returns-clause-loaded c = subst (λ x. IsTrue c.load.result → LoadsThrough x c.load.new.heap c.args.dest c.args.object.register c.args.at c.args.index c.args.own) c.self.view_is c.load.ensures.loaded

pub returns-clause-aside : goal.returns-clause-aside
returns-clause-aside c =
    subst (λ (x : Heap). c.load.result ≡ false → IsInUse x.space 1 c.args.own ⊎ LacksThrough x.space c.args.object c.args.at c.args.index) c.self.view_is c.load.ensures.aside

pub returns-clause-unchanged : goal.returns-clause-unchanged
returns-clause-unchanged c = subst (λ x. c.load.result ≡ false → c.load.new.heap ≡ x) c.self.view_is c.load.ensures.unchanged
