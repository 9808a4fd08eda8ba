use Rattle.std.proofs.Common.{◌+◌, ap}
use Rattle.lxr_heap.specs.Holding.{abstract_of}
use Rattle.lxr_heap.proofs.HeapLemmas.{may_operate}
use Rattle.lxr_heap.proofs.ThroughLemmas.{loads_does}
use Rattle.lxr_heap.proofs.through.load.Goals as goal

pub try_load_through-requires-clause-state : goal.try_load_through-requires-clause-state
try_load_through-requires-clause-state c = let (h, is) = c.requires.holds in (abstract_of c.args.heap.now h is.at, c.args.heap.now.made + 1, may_operate c.args.heap.now h is)

pub returns-then-not-try_load_through-clause-unchanged : goal.returns-then-not-try_load_through-clause-unchanged
returns-then-not-try_load_through-clause-unchanged c = λ e. ap (λ s. record c.args.heap.now { space = s }) (c.try_load_through.ensures.unchanged c.if-not-try_load_through.true)

pub returns-clause-loaded : goal.returns-clause-loaded
returns-clause-loaded c = λ e.
    loads_does c.args.heap.now c.try_load_through.new.space c.args.object.register c.args.at c.args.index c.args.own c.requires.register c.requires.own c.args.dest c.requires.dest
    (c.try_load_through.ensures.loaded c.if-not-try_load_through.false)
