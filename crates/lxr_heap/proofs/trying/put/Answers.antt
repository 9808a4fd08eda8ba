use Rattle.std.proofs.Common.{◌+◌, refl, ap, false}
use Rattle.lxr_graph.specs.declared.Op.TheVariants as op
use Rattle.lxr_graph.specs.declared.Reply.TheVariants as reply
use Rattle.lxr_heap.specs.Holding.{abstract_of}
use Rattle.lxr_heap.proofs.ActingLemmas.{replied_small}
use Rattle.lxr_heap.proofs.HeapLemmas.{may_operate, standing}
use Rattle.lxr_heap.proofs.LookingLemmas.{small_reply}
use Rattle.lxr_heap.proofs.trying.put.Goals as goal

pub try_put-requires : goal.try_put-requires
try_put-requires c = let (h, is) = c.requires.holds in record { state = (abstract_of c.args.heap.now h is.at, c.args.heap.now.made + 1, may_operate c.args.heap.now h is) }

pub returns-then-not-try_put-clause-misses : goal.returns-then-not-try_put-clause-misses
returns-then-not-try_put-clause-misses c = λ e h is.
    let x = c.args.heap.now in
    let (r, such, done) = c.try_put.ensures.misses c.if-not-try_put.true (abstract_of x h is.at) (x.made + 1) (may_operate x h is) in
    (r, such, small_reply x h is (op.Put c.args.base c.args.index c.args.value) r done.reply)

pub returns-then-not-try_put-clause-unchanged : goal.returns-then-not-try_put-clause-unchanged
returns-then-not-try_put-clause-unchanged c = λ e. ap (λ s. record c.args.heap.now { space = s }) (c.try_put.ensures.unchanged c.if-not-try_put.true)

pub returns-clause-done : goal.returns-clause-done
returns-clause-done c = λ e.
    let x = c.args.heap.now in (
      reply.Put,
      tt,
      λ h is.
          replied_small x h is c.try_put.new.space (op.Put c.args.base c.args.index c.args.value) reply.Put x.made c.requires.base tt refl (λ at stands. c.try_put.ensures.put c.if-not-try_put.false (abstract_of x h at) (x.made + 1) (may_operate x h (standing x h is at stands))) ((λ no. no), (λ no. no)),
    )
