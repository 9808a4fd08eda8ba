use Rattle.std.proofs.Common.{◌+◌}
use Rattle.lxr_heap.specs.Holding.{abstract_of}
use Rattle.lxr_heap.proofs.HeapLemmas.{may_operate, standing}
use Rattle.lxr_heap.proofs.KnownLemmas.{store_replied}
use Rattle.lxr_heap.proofs.known.store_unlogged.Goals as goal

pub store_young-requires-clause-state : goal.store_young-requires-clause-state
store_young-requires-clause-state c = let (h, is) = c.requires.holds in (abstract_of c.args.heap.now h is.at, c.args.heap.now.made + 1, may_operate c.args.heap.now h is)

pub returns-clause-replied : goal.returns-clause-replied
returns-clause-replied c = λ h is.
    let x = c.args.heap.now in
    store_replied x h is c.store_young.new.space c.args.object.register c.args.index c.args.source (c.requires.register, c.requires.source)
    (λ at stands. c.store_young.ensures.done (abstract_of x h at) (x.made + 1) (may_operate x h (standing x h is at stands)))
