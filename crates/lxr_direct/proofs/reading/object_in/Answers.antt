use Rattle.lxr_graph.specs.State.{register_at}
use Rattle.lxr_direct.proofs.HeldLemmas.{register_placed, tells_named}
use Rattle.lxr_direct.proofs.reading.object_in.Goals as goal

pub object_at-requires : goal.object_at-requires
object_at-requires c =
    let (g, serial, may) = c.requires.state in
    (g, register_at g.moment.state c.args.thread c.args.register, register_placed c.args.space.now g c.args.thread serial c.args.register c.held-place.result may c.held-place.ensures)

pub returns : goal.returns
returns c = λ g serial may.
    let v = register_at g.moment.state c.args.thread c.args.register in
    tells_named g c.held-place.result v c.object_at.result (c.object_at.ensures g v (register_placed c.args.space.now g c.args.thread serial c.args.register c.held-place.result may c.held-place.ensures))
