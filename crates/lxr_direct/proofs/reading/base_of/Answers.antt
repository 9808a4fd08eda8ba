use Rattle.std.proofs.Common.{◌≡◌, rules, subst}
use Rattle.lxr_graph.specs.State.{register_at}
use Rattle.lxr_direct.specs.declared.reading.Base.{Base}
use Rattle.lxr_direct.specs.Operating.{LiesInside}
use Rattle.lxr_direct.proofs.HeldLemmas.{none_there, register_placed, stands_inside}
use Rattle.lxr_direct.proofs.reading.base_of.Goals as goal

pub returns-then-place-eq0-clause-holds : goal.returns-then-place-eq0-clause-holds
returns-then-place-eq0-clause-holds c = λ g serial may.
    none_there c.args.space.now g c.held-place.result (register_at g.moment.state c.args.thread c.args.register)
    (register_placed c.args.space.now g c.args.thread serial c.args.register c.held-place.result may c.held-place.ensures) (search rules)

pub shape_at-shape-requires-clause-stands : goal.shape_at-shape-requires-clause-stands
shape_at-shape-requires-clause-stands c =
    let (g, serial, may) = c.requires.state in
    (g, register_at g.moment.state c.args.thread c.args.register, register_placed c.args.space.now g c.args.thread serial c.args.register c.held-place.result may c.held-place.ensures)

pub returns-clause-holds : goal.returns-clause-holds
returns-clause-holds c = λ g serial may.
    c.shape_at-shape.ensures g (register_at g.moment.state c.args.thread c.args.register)
    (register_placed c.args.space.now g c.args.thread serial c.args.register c.held-place.result may c.held-place.ensures)

pub returns-clause-inside : goal.returns-clause-inside
returns-clause-inside c = λ x e.
    let (g, serial, may) = c.requires.state in
    let v = register_at g.moment.state c.args.thread c.args.register in
    let is = register_placed c.args.space.now g c.args.thread serial c.args.register c.held-place.result may c.held-place.ensures in
    let base : Base = record { place = c.held-place.result; shape = c.shape_at-shape.result } in
    let same : base ≡ x = cc in
    let (name, stands) = c.shape_at-shape.ensures g v is in
    subst (LiesInside c.args.space.now) same (stands_inside c.args.space.now g v name base is stands)
