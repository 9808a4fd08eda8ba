use Rattle.std.proofs.Common.{◌+◌, refl, ap, false}
use Rattle.lxr_graph.specs.declared.Op.TheVariants as op
use Rattle.lxr_graph.specs.declared.Reply.TheVariants as reply
use Rattle.lxr_heap.specs.Holding.{abstract_of}
use Rattle.lxr_heap.proofs.ActingLemmas.{replied_small}
use Rattle.lxr_heap.proofs.HeapLemmas.{may_operate, standing}
use Rattle.lxr_heap.proofs.LookingLemmas.{small_reply}
use Rattle.lxr_heap.proofs.trying.load.Goals as goal

pub try_load-requires-clause-state : goal.try_load-requires-clause-state
try_load-requires-clause-state c = let (h, is) = c.requires.holds in (abstract_of c.args.heap.now h is.at, c.args.heap.now.made + 1, may_operate c.args.heap.now h is)

pub returns-then-not-try_load-clause-misses : goal.returns-then-not-try_load-clause-misses
returns-then-not-try_load-clause-misses c = λ e h is.
    let x = c.args.heap.now in
    let (r, such, done) = c.try_load.ensures.misses c.if-not-try_load.true (abstract_of x h is.at) (x.made + 1) (may_operate x h is) in
    (r, such, small_reply x h is (op.Load c.args.dest c.args.base c.args.index) r done.reply)

pub returns-then-not-try_load-clause-unchanged : goal.returns-then-not-try_load-clause-unchanged
returns-then-not-try_load-clause-unchanged c = λ e. ap (λ s. record c.args.heap.now { space = s }) (c.try_load.ensures.unchanged c.if-not-try_load.true)

pub returns-clause-done : goal.returns-clause-done
returns-clause-done c = λ e.
    let x = c.args.heap.now in
    let (name, each) = c.try_load.ensures.loaded c.if-not-try_load.false in (
      reply.Loaded name,
      tt,
      λ h is.
          replied_small x h is c.try_load.new.space (op.Load c.args.dest c.args.base c.args.index) (reply.Loaded name) x.made (c.requires.dest, c.requires.base) tt refl (λ at stands. each (abstract_of x h at) (x.made + 1) (may_operate x h (standing x h is at stands))) ((λ no. no), (λ no. no)),
    )
