use Rattle.std.proofs.Common.{ℕ, sym, ap, subst}
use Rattle.lxr_layout.specs.declared.Name.{Name}
use Rattle.lxr_graph.specs.declared.Reply.TheVariants as reply
use Rattle.lxr_direct.specs.declared.Operated.TheVariants as operated
use Rattle.lxr_direct.specs.Operating.{Operates}
use Rattle.lxr_large_model.specs.declared.LargeOp.TheVariants as large_op
use Rattle.lxr_large_model.specs.declared.LargeReply.TheVariants as large_reply
use Rattle.lxr_large_model.specs.History.{large_moment}
use Rattle.lxr_heap.specs.Acting.{Acts}
use Rattle.lxr_heap.specs.Holding.{StandAt, abstract_of}
use Rattle.lxr_heap.proofs.ActingLemmas.{no_place_small, refusal, replied_small}
use Rattle.lxr_heap.proofs.EarlyLemmas.{log_alike}
use Rattle.lxr_heap.proofs.HeapLemmas.{may_operate, standing}
use Rattle.lxr_heap.proofs.acting.act_small.Goals as goal

pub operate-requires-clause-state : goal.operate-requires-clause-state
operate-requires-clause-state c = let (h, is) = c.requires.holds in (abstract_of c.args.heap.now h is.at, may_operate c.args.heap.now h is)

pub returns-in-Replied : goal.returns-in-Replied
returns-in-Replied c = λ h is.
    let x = c.args.heap.now in
    let came : (at : Name → ℕ) → StandAt x h at → Operates x.space c.operate.new.space (abstract_of x h at) 1 c.args.op (operated.Replied c.in-Replied.reply) = λ at stands.
    subst (Operates x.space c.operate.new.space (abstract_of x h at) 1 c.args.op) c.in-Replied.is (c.operate.ensures (abstract_of x h at) (may_operate x h (standing x h is at stands))) in
    replied_small x h is c.operate.new.space c.args.op c.in-Replied.reply c.made_with-heap.result c.requires.op.0 c.requires.op.1 c.made_with-heap.ensures
    (λ at stands. (came at stands).0) (let here = came is.at is.stands in (here.1, here.2))

pub returns-in-NoRoom : goal.returns-in-NoRoom
returns-in-NoRoom c = λ h is.
    let x = c.args.heap.now in
    let came = subst (Operates x.space c.operate.new.space (abstract_of x h is.at) 1 c.args.op) c.in-NoRoom.is (c.operate.ensures (abstract_of x h is.at) (may_operate x h is)) in
    subst (λ a. Acts x (record x { space = c.operate.new.space }) h (large_op.Small c.args.op) a) (sym c.refused.ensures)
    (subst (λ s. Acts x (record x { space = s }) h (large_op.Small c.args.op) (refusal x.fresh (large_reply.Small reply.Full))) (sym came.1) (no_place_small x h is c.args.op c.requires.op.0 came.0))

pub returns-in-LogFull : goal.returns-in-LogFull
returns-in-LogFull c = λ h is.
    let x = c.args.heap.now in
    let came = subst (Operates x.space c.operate.new.space (abstract_of x h is.at) 1 c.args.op) c.in-LogFull.is (c.operate.ensures (abstract_of x h is.at) (may_operate x h is)) in
    ((log_alike (large_moment h) x.gone.items is.follows is.gone x.space 1 c.args.op).0 came.0, ap (λ s. record x { space = s }) came.1)
