use Rattle.std.proofs.Common.{◌+◌}
use Rattle.lxr_heap.specs.Holding.{abstract_of}
use Rattle.lxr_heap.proofs.HeapLemmas.{may_operate}
use Rattle.lxr_heap.proofs.KnownLemmas.{shape_told}
use Rattle.lxr_heap.proofs.known.find.Goals as goal

pub look_up-requires : goal.look_up-requires
look_up-requires c = let (h, is) = c.requires.holds in record { state = (abstract_of c.args.heap.now h is.at, c.args.heap.now.made + 1, may_operate c.args.heap.now h is) }

pub returns-clause-shape : goal.returns-clause-shape
returns-clause-shape c = λ h is.
    let x = c.args.heap.now in
    shape_told x h is c.args.register c.look_up.result (c.look_up.ensures.base (abstract_of x h is.at) (x.made + 1) (may_operate x h is))
