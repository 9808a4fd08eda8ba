use Rattle.std.proofs.Common.{subst, sym, arith}
use Rattle.std.specs.Prelude.{slice_set}
use Rattle.lxr_graph.specs.declared.Op.TheVariants as op
use Rattle.lxr_graph.specs.declared.Reply.TheVariants as reply
use Rattle.lxr_graph.specs.State.{register_index}
use Rattle.lxr_direct.specs.Operating.{IsBase, IsDone, IsPlaceOf, with_places}
use Rattle.lxr_direct.proofs.FieldLemmas.{load_done, load_of_nil, load_past, reference_placed, referred}
use Rattle.lxr_direct.proofs.fields.load.Goals as goal

pub returns-in_default : goal.returns-in_default
returns-in_default c = λ g serial may.
    load_of_nil c.args.space.now g c.args.thread serial may c.args.dest c.args.base c.args.index (subst (IsBase g c.args.thread c.args.base) c.in_default.is (c.base_of.ensures.holds g serial may))

pub returns-then-object-index : goal.returns-then-object-index
returns-then-object-index c = λ g serial may.
    let at = subst (IsBase g c.args.thread c.args.base) c.in-Some.is (c.base_of.ensures.holds g serial may) in
    load_past c.args.space.now g c.args.thread serial may c.args.base c.in-Some.object at.0 at.1 c.args.dest c.args.index c.if-object-index.true

pub reference_at-found-requires-clause-place : goal.reference_at-found-requires-clause-place
reference_at-found-requires-clause-place c = (c.base_of.ensures.inside c.in-Some.object c.in-Some.is).place

pub reference_at-found-requires-clause-field : goal.reference_at-found-requires-clause-field
reference_at-found-requires-clause-field c =
    let inside = (c.base_of.ensures.inside c.in-Some.object c.in-Some.is).words in
    let low = c.if-object-index.false in
    omega (arith, inside, low)

pub name_at-name-requires : goal.name_at-name-requires
name_at-name-requires c =
    let (g, serial, may) = c.requires.state in
    let at = subst (IsBase g c.args.thread c.args.base) c.in-Some.is (c.base_of.ensures.holds g serial may) in (
      g,
      referred c.args.space.now g c.args.thread serial may c.args.base c.in-Some.object at.0 at.1 c.args.index,
      subst (λ z. IsPlaceOf c.args.space.now g z (referred c.args.space.now g c.args.thread serial may c.args.base c.in-Some.object at.0 at.1 c.args.index)) (sym c.reference_at-found.ensures)
          (reference_placed c.args.space.now g c.args.thread serial may c.args.base c.in-Some.object at.0 at.1 c.args.index c.if-object-index.false),
    )

pub returns : goal.returns
returns c = λ g serial may.
    let before = c.args.space.now in
    let at = subst (IsBase g c.args.thread c.args.base) c.in-Some.is (c.base_of.ensures.holds g serial may) in
    let name = c.name_at-name.ensures g (referred before g c.args.thread serial may c.args.base c.in-Some.object at.0 at.1 c.args.index)
    (subst (λ z. IsPlaceOf before g z (referred before g c.args.thread serial may c.args.base c.in-Some.object at.0 at.1 c.args.index)) (sym c.reference_at-found.ensures)
    (reference_placed before g c.args.thread serial may c.args.base c.in-Some.object at.0 at.1 c.args.index c.if-object-index.false)) in
    subst (λ s. IsDone before s g c.args.thread (op.Load c.args.dest c.args.base c.args.index) (reply.Loaded c.name_at-name.result)) (sym c.hold.ensures)
    (subst (λ p. IsDone before (with_places before (slice_set before.registers.items (register_index c.args.thread c.args.dest) p)) g c.args.thread (op.Load c.args.dest c.args.base c.args.index) (reply.Loaded c.name_at-name.result))
    (sym c.reference_at-found.ensures)
    (load_done before g c.args.thread serial may c.args.base c.in-Some.object at.0 at.1 c.args.dest c.args.index c.name_at-name.result (c.ranges.dest.fits, c.ranges.base.fits) c.if-object-index.false name))

pub reference_at-found-requires-clause-used : goal.reference_at-found-requires-clause-used
reference_at-found-requires-clause-used c =
    let low = c.if-object-index.false in
    (c.base_of.ensures.inside c.in-Some.object c.in-Some.is).used _ (omega arith) (omega (arith, low))
