use Rattle.std.proofs.Common.{◌+◌}
use Rattle.lxr_graph.specs.declared.Op.TheVariants as op
use Rattle.lxr_graph.specs.declared.Reply.TheVariants as reply
use Rattle.lxr_heap.specs.Holding.{abstract_of}
use Rattle.lxr_heap.proofs.HeapLemmas.{may_operate}
use Rattle.lxr_heap.proofs.LookingLemmas.{small_reply}
use Rattle.lxr_heap.proofs.trying.get.Goals as goal

pub try_get-requires : goal.try_get-requires
try_get-requires c = let (h, is) = c.requires.holds in record { state = (abstract_of c.args.heap.now h is.at, c.args.heap.now.made + 1, may_operate c.args.heap.now h is) }

pub returns-in-Some-clause-got : goal.returns-in-Some-clause-got
returns-in-Some-clause-got c = λ h is.
    let x = c.args.heap.now in
    small_reply x h is (op.Get c.args.base c.args.index) (reply.Got c.in-Some.word) (c.in-Some.ensures.got (abstract_of x h is.at) (x.made + 1) (may_operate x h is)).reply

pub returns-in-None-clause-misses : goal.returns-in-None-clause-misses
returns-in-None-clause-misses c = λ h is.
    let x = c.args.heap.now in
    let (r, such, done) = c.in-None.ensures.misses (abstract_of x h is.at) (x.made + 1) (may_operate x h is) in
    (r, such, small_reply x h is (op.Get c.args.base c.args.index) r done.reply)
