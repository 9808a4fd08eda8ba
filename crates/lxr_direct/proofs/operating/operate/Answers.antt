use Rattle.std.proofs.Common.{sym, subst}
use Rattle.lxr_graph.specs.declared.Reply.TheVariants as reply
use Rattle.lxr_direct.specs.declared.Operated.TheVariants as came
use Rattle.lxr_direct.specs.Operating.{Operates}
use Rattle.lxr_direct.proofs.MakingLemmas.{collect_done, pause_done}
use Rattle.lxr_direct.proofs.operating.operate.Goals as goal

pub returns-in-New : goal.returns-in-New
returns-in-New c = λ g may.
    subst (λ o. Operates c.args.space.now c.make.new.space g c.args.thread o c.make.result) (sym c.in-New.is) (c.make.ensures g may)

pub returns-in-Load : goal.returns-in-Load
returns-in-Load c = λ g may.
    subst (λ o. Operates c.args.space.now c.load.new.space g c.args.thread o (came.Replied c.load.result)) (sym c.in-Load.is) (c.load.ensures g c.args.serial may, (λ no. no), (λ no. no))

pub returns-in-Store : goal.returns-in-Store
returns-in-Store c = λ g may.
    subst (λ o. Operates c.args.space.now c.store.new.space g c.args.thread o c.store.result) (sym c.in-Store.is) (c.store.ensures g c.args.serial may)

pub returns-in-Put : goal.returns-in-Put
returns-in-Put c = λ g may.
    subst (λ o. Operates c.args.space.now c.put.new.space g c.args.thread o (came.Replied c.put.result)) (sym c.in-Put.is) (c.put.ensures g c.args.serial may, (λ no. no), (λ no. no))

pub returns-in-Get : goal.returns-in-Get
returns-in-Get c = λ g may.
    subst (λ o. Operates c.args.space.now c.args.space.now g c.args.thread o (came.Replied c.get.result)) (sym c.in-Get.is) (c.get.ensures g c.args.serial may, (λ no. no), (λ no. no))

pub returns-in-Move : goal.returns-in-Move
returns-in-Move c = λ g may.
    subst (λ o. Operates c.args.space.now c.move_register.new.space g c.args.thread o (came.Replied reply.Moved)) (sym c.in-Move.is) (c.move_register.ensures g c.args.serial may, (λ no. no), (λ no. no))

pub returns-in-Nil : goal.returns-in-Nil
returns-in-Nil c = λ g may.
    subst (λ o. Operates c.args.space.now c.nil_register.new.space g c.args.thread o (came.Replied reply.Cleared)) (sym c.in-Nil.is) (c.nil_register.ensures g c.args.serial may, (λ no. no), (λ no. no))

pub returns-in-Same : goal.returns-in-Same
returns-in-Same c = λ g may.
    subst (λ o. Operates c.args.space.now c.args.space.now g c.args.thread o (came.Replied (reply.Same c.same.result))) (sym c.in-Same.is) (c.same.ensures g c.args.serial may, (λ no. no), (λ no. no))

pub returns-in-Pause : goal.returns-in-Pause
returns-in-Pause c = λ g may.
    subst (λ o. Operates c.args.space.now c.args.space.now g c.args.thread o (came.Replied reply.Paused)) (sym c.in-Pause.is) (pause_done c.args.space.now g c.args.thread c.args.serial may, (λ no. no), (λ no. no))

pub returns-in-Collect : goal.returns-in-Collect
returns-in-Collect c = λ g may.
    subst (λ o. Operates c.args.space.now c.args.space.now g c.args.thread o (came.Replied reply.Collected)) (sym c.in-Collect.is) (collect_done c.args.space.now g c.args.thread c.args.serial may, (λ no. no), (λ no. no))

pub returns-in-End : goal.returns-in-End
returns-in-End c = λ g may.
    subst (λ o. Operates c.args.space.now c.end.new.space g c.args.thread o (came.Replied reply.Ended)) (sym c.in-End.is) (c.end.ensures g c.args.serial may, (λ no. no), (λ no. no))
