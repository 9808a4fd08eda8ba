use Rattle.std.proofs.Common.{◌≡◌, ap, arith, subst}
use Rattle.lxr_layout.specs.declared.Shape.{Shape}
use Rattle.lxr_direct.specs.declared.reading.Base.{Base}
use Rattle.lxr_direct.specs.Operating.{LiesInside}
use Rattle.lxr_direct.proofs.KnownLemmas.{known_inside}
use Rattle.lxr_direct.proofs.ThroughLemmas.{same_shape, through_inside, through_placed, through_refers, value_through}
use Rattle.lxr_direct.proofs.through.part_with.Goals as goal

pub reference_at-place-requires-clause-place : goal.reference_at-place-requires-clause-place
reference_at-place-requires-clause-place c = let (g, serial, may) = c.requires.state in (known_inside c.args.space.now g c.args.thread serial may c.args.object c.requires.known).place

pub reference_at-place-requires-clause-field : goal.reference_at-place-requires-clause-field
reference_at-place-requires-clause-field c =
    let (g, serial, may) = c.requires.state in
    let inside = (known_inside c.args.space.now g c.args.thread serial may c.args.object c.requires.known).words in
    let low = c.if-at-object.false in
    omega (arith, inside, low)

pub reference_at-place-requires-clause-used : goal.reference_at-place-requires-clause-used
reference_at-place-requires-clause-used c =
    let (g, serial, may) = c.requires.state in
    let low = c.if-at-object.false in
    (known_inside c.args.space.now g c.args.thread serial may c.args.object c.requires.known).used _ (omega arith) (omega (arith, low))

pub shape_at-shape-requires-clause-stands : goal.shape_at-shape-requires-clause-stands
shape_at-shape-requires-clause-stands c =
    let (g, serial, may) = c.requires.state in (
      g,
      value_through c.args.space.now g c.args.thread serial may c.args.object c.requires.known c.args.at c.if-at-object.false,
      through_placed c.args.space.now g c.args.thread serial may c.args.object c.requires.known c.args.at c.if-at-object.false c.reference_at-place.result c.reference_at-place.ensures,
    )

pub returns-then-index-shape-clause-lacks : goal.returns-then-index-shape-clause-lacks
returns-then-index-shape-clause-lacks c = λ base refers.
    let (g, serial, may) = c.requires.state in
    let s = c.args.space.now in
    let p = c.reference_at-place.result in
    let part : Base = record { place = p; shape = c.shape_at-shape.result } in
    let placed = through_placed s g c.args.thread serial may c.args.object c.requires.known c.args.at c.if-at-object.false p c.reference_at-place.ensures in
    let (n, at) = c.shape_at-shape.ensures g _ placed in
    let found = through_refers s g c.args.thread serial may c.args.object c.requires.known c.args.at c.if-at-object.false part c.reference_at-place.ensures c.if-place-eq0.false n at in
    let same : base.shape.refs ≡ part.shape.refs = ap (λ (z : Shape). z.refs) (same_shape s c.args.object c.args.at base part refers found) in
    let few = c.if-index-shape.true in
    omega (arith, same, few)

pub returns-clause-refers : goal.returns-clause-refers
returns-clause-refers c =
    let (g, serial, may) = c.requires.state in
    let s = c.args.space.now in
    let p = c.reference_at-place.result in
    let part : Base = record { place = p; shape = c.shape_at-shape.result } in
    let placed = through_placed s g c.args.thread serial may c.args.object c.requires.known c.args.at c.if-at-object.false p c.reference_at-place.ensures in
    let (n, at) = c.shape_at-shape.ensures g _ placed in
    (through_refers s g c.args.thread serial may c.args.object c.requires.known c.args.at c.if-at-object.false part c.reference_at-place.ensures c.if-place-eq0.false n at, c.if-index-shape.false)

pub returns-clause-inside : goal.returns-clause-inside
returns-clause-inside c = λ x e.
    let (g, serial, may) = c.requires.state in
    let s = c.args.space.now in
    let p = c.reference_at-place.result in
    let part : Base = record { place = p; shape = c.shape_at-shape.result } in
    let same : part ≡ x = cc in
    let placed = through_placed s g c.args.thread serial may c.args.object c.requires.known c.args.at c.if-at-object.false p c.reference_at-place.ensures in
    let (n, at) = c.shape_at-shape.ensures g _ placed in
    subst (LiesInside s) same (through_inside s g c.args.thread serial may c.args.object c.requires.known c.args.at c.if-at-object.false part c.reference_at-place.ensures c.if-place-eq0.false n at)
