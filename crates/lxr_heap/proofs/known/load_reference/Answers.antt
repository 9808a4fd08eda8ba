use Rattle.std.proofs.Common.{◌+◌}
use Rattle.lxr_heap.specs.Holding.{abstract_of}
use Rattle.lxr_heap.proofs.HeapLemmas.{may_operate, standing}
use Rattle.lxr_heap.proofs.KnownLemmas.{load_replied}
use Rattle.lxr_heap.proofs.known.load_reference.Goals as goal

pub load_from-requires-clause-state : goal.load_from-requires-clause-state
load_from-requires-clause-state c = let (h, is) = c.requires.holds in (abstract_of c.args.heap.now h is.at, c.args.heap.now.made + 1, may_operate c.args.heap.now h is)

pub returns-clause-replied : goal.returns-clause-replied
returns-clause-replied c = λ h is.
    let x = c.args.heap.now in
    load_replied x h is c.load_from.new.space c.args.dest c.args.object.register c.args.index (c.requires.dest, c.requires.register)
    (λ at stands. c.load_from.ensures.done (abstract_of x h at) (x.made + 1) (may_operate x h (standing x h is at stands)))
