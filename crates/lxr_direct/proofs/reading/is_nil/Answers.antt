use Rattle.lxr_graph.specs.State.{register_at}
use Rattle.lxr_direct.proofs.HeldLemmas.{nil_place, nil_test, register_placed}
use Rattle.lxr_direct.proofs.reading.is_nil.Goals as goal

pub returns : goal.returns
returns c = λ g serial may.
    let v = register_at g.moment.state c.args.thread c.args.register in
    nil_test c.held.result.0 v (nil_place c.args.space.now g c.held.result v (register_placed c.args.space.now g c.args.thread serial c.args.register c.held.result may c.held.ensures))
