use Rattle.lxr_graph.specs.State.{register_at}
use Rattle.lxr_direct.proofs.HeldLemmas.{register_placed}
use Rattle.lxr_direct.proofs.reading.name_in.Goals as goal

pub name_at-requires : goal.name_at-requires
name_at-requires c =
    let (g, serial, may) = c.requires.state in
    (g, register_at g.moment.state c.args.thread c.args.register, register_placed c.args.space.now g c.args.thread serial c.args.register c.held-place.result may c.held-place.ensures)

pub returns : goal.returns
returns c = λ g serial may.
    let v = register_at g.moment.state c.args.thread c.args.register in
    c.name_at.ensures g v (register_placed c.args.space.now g c.args.thread serial c.args.register c.held-place.result may c.held-place.ensures)
