use Rattle.std.proofs.Common.{sym, subst}
use Rattle.lxr_graph.specs.declared.Op.TheVariants as op
use Rattle.lxr_graph.specs.declared.Reply.TheVariants as reply
use Rattle.lxr_direct.specs.Operating.{IsDone}
use Rattle.lxr_direct.proofs.RegisterLemmas.{move_done}
use Rattle.lxr_direct.proofs.operating.move_register.Goals as goal

pub returns : goal.returns
returns c = λ g serial may. subst (λ s. IsDone c.args.space.now s g c.args.thread (op.Move c.args.dest c.args.source) reply.Moved) (sym c.hold.ensures)
    (move_done c.args.space.now g c.args.thread serial c.args.dest c.args.source c.held-place.result may (c.ranges.dest.fits, c.ranges.source.fits) c.held-place.ensures)
