use Rattle.std.proofs.Common.{sym, subst}
use Rattle.lxr_graph.specs.declared.Op.TheVariants as op
use Rattle.lxr_graph.specs.declared.Reply.TheVariants as reply
use Rattle.lxr_direct.specs.Operating.{IsDone}
use Rattle.lxr_direct.proofs.RegisterLemmas.{nil_done}
use Rattle.lxr_direct.proofs.operating.nil_register.Goals as goal

pub returns : goal.returns
returns c = λ g serial may. subst (λ s. IsDone c.args.space.now s g c.args.thread (op.Nil c.args.dest) reply.Cleared) (sym c.hold.ensures)
    (nil_done c.args.space.now g c.args.thread serial c.args.dest may c.ranges.dest.fits)
