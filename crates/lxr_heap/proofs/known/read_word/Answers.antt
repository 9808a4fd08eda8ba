use Rattle.std.proofs.Common.{◌+◌}
use Rattle.lxr_graph.specs.declared.Op.TheVariants as op
use Rattle.lxr_graph.specs.declared.Reply.TheVariants as reply
use Rattle.lxr_heap.specs.Holding.{abstract_of}
use Rattle.lxr_heap.proofs.HeapLemmas.{may_operate}
use Rattle.lxr_heap.proofs.LookingLemmas.{small_reply}
use Rattle.lxr_heap.proofs.known.read_word.Goals as goal

pub get_in-requires-clause-known : goal.get_in-requires-clause-known
get_in-requires-clause-known c = let (h, is) = c.requires.holds in (1, (abstract_of c.args.heap.now h is.at, c.args.heap.now.made + 1, may_operate c.args.heap.now h is), c.requires.known)

pub returns : goal.returns
returns c = λ h is.
    let x = c.args.heap.now in
    small_reply x h is (op.Get c.args.object.register c.args.index) (reply.Got c.get_in.result) (c.get_in.ensures (abstract_of x h is.at) 1 (x.made + 1) (may_operate x h is) c.requires.known).reply
