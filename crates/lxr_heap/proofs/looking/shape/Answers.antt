use Rattle.std.proofs.Common.{◌+◌, sym, ◌∙◌}
use Rattle.lxr_heap.specs.Holding.{abstract_of}
use Rattle.lxr_heap.proofs.HeapLemmas.{may_operate}
use Rattle.lxr_heap.proofs.LookingLemmas.{nothing_held, shape_told}
use Rattle.lxr_heap.proofs.looking.shape.Goals as goal

pub object_in-requires : goal.object_in-requires
object_in-requires c = let (h, is) = c.requires.holds in record { state = (abstract_of c.args.heap.now h is.at, c.args.heap.now.made + 1, may_operate c.args.heap.now h is) }

pub returns-in-None : goal.returns-in-None
returns-in-None c = λ h is.
    let x = c.args.heap.now in
    nothing_held x h is c.args.base (sym c.in-None.is ∙ c.object_in.ensures (abstract_of x h is.at) (x.made + 1) (may_operate x h is))

pub returns-in-Some : goal.returns-in-Some
returns-in-Some c = λ h is.
    let x = c.args.heap.now in
    shape_told x h is c.args.base c.in-Some.name c.in-Some.shape c.blocks_of.result (sym c.in-Some.is ∙ c.object_in.ensures (abstract_of x h is.at) (x.made + 1) (may_operate x h is)) c.blocks_of.ensures
