use Rattle.std.proofs.Common.{sym, subst, arith}
use Rattle.lxr_graph.specs.declared.Op.TheVariants as op
use Rattle.lxr_graph.specs.declared.Reply.TheVariants as reply
use Rattle.lxr_direct.specs.Operating.{IsDone}
use Rattle.lxr_direct.proofs.HeldLemmas.{many_registers}
use Rattle.lxr_direct.proofs.RegisterLemmas.{end_done}
use Rattle.lxr_direct.proofs.operating.end.Goals as goal

pub returns : goal.returns
returns c = λ g serial may.
    let many = many_registers c.args.space.now g c.args.thread serial may in
    let some = may.thread.0 in
    subst (λ s. IsDone c.args.space.now s g c.args.thread op.End reply.Ended) (sym c.clear.ensures)
    (end_done c.args.space.now g c.args.thread serial may (omega (arith, many, some)))
