use Rattle.std.proofs.Common.{◌+◌, ap}
use Rattle.lxr_heap.specs.Holding.{abstract_of}
use Rattle.lxr_heap.proofs.HeapLemmas.{may_operate}
use Rattle.lxr_heap.proofs.ThroughLemmas.{stores_does}
use Rattle.lxr_heap.proofs.through.store.Goals as goal

pub try_store_through-requires-clause-state : goal.try_store_through-requires-clause-state
try_store_through-requires-clause-state c = let (h, is) = c.requires.holds in (abstract_of c.args.heap.now h is.at, c.args.heap.now.made + 1, may_operate c.args.heap.now h is)

pub returns-then-not-try_store_through-clause-unchanged : goal.returns-then-not-try_store_through-clause-unchanged
returns-then-not-try_store_through-clause-unchanged c = λ e. ap (λ s. record c.args.heap.now { space = s }) (c.try_store_through.ensures.unchanged c.if-not-try_store_through.true)

pub returns-clause-stored : goal.returns-clause-stored
returns-clause-stored c = λ e.
    stores_does c.args.heap.now c.try_store_through.new.space c.args.object.register c.args.at c.args.index c.args.own c.requires.register c.requires.own c.args.source c.requires.source
    (c.try_store_through.ensures.stored c.if-not-try_store_through.false)
