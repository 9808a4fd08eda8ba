use Rattle.std.proofs.Common.{◌∙◌, ap, subst, sym, arith}
use Rattle.std.specs.Prelude.{slice_set}
use Rattle.std.proofs.lemmas.Bool.{iff_false}
use Rattle.lxr_graph.specs.declared.Op.TheVariants as op
use Rattle.lxr_graph.specs.declared.Reply.TheVariants as reply
use Rattle.lxr_graph.specs.State.{register_index}
use Rattle.lxr_direct.specs.Operating.{IsBase, IsDone, with_places}
use Rattle.lxr_direct.proofs.FieldLemmas.{load_done, load_of_nil, load_past, reference_placed}
use Rattle.lxr_direct.proofs.NamedLemmas.{name_told, place_tells}
use Rattle.lxr_direct.proofs.trying.try_load.Goals as goal

pub returns-in_default-clause-misses : goal.returns-in_default-clause-misses
returns-in_default-clause-misses c = λ e g serial may.
    (reply.Bad, tt, load_of_nil c.args.space.now g c.args.thread serial may c.args.dest c.args.base c.args.index (subst (IsBase g c.args.thread c.args.base) c.in_default.is (c.base_of.ensures.holds g serial may)))

pub returns-then-not-has_field-clause-misses : goal.returns-then-not-has_field-clause-misses
returns-then-not-has_field-clause-misses c = λ e g serial may.
    let at = subst (IsBase g c.args.thread c.args.base) c.in-Some.is (c.base_of.ensures.holds g serial may) in
    let past = iff_false c.has_field.ensures.there c.if-not-has_field.true in
    (reply.Range, tt, load_past c.args.space.now g c.args.thread serial may c.args.base c.in-Some.object at.0 at.1 c.args.dest c.args.index (omega (arith, past)))

pub reference_at-found-requires-clause-place : goal.reference_at-found-requires-clause-place
reference_at-found-requires-clause-place c = (c.base_of.ensures.inside c.in-Some.object c.in-Some.is).place

pub reference_at-found-requires-clause-field : goal.reference_at-found-requires-clause-field
reference_at-found-requires-clause-field c =
    let inside = (c.base_of.ensures.inside c.in-Some.object c.in-Some.is).words in
    let low = c.has_field.ensures.there.0 c.if-not-has_field.false in
    omega (arith, inside, low)

pub returns-clause-loaded : goal.returns-clause-loaded
returns-clause-loaded c = λ e. (
  name_told c.args.space.now c.reference_at-found.result,
  λ g serial may.
      let before = c.args.space.now in
      let at = subst (IsBase g c.args.thread c.args.base) c.in-Some.is (c.base_of.ensures.holds g serial may) in
      let low = c.has_field.ensures.there.0 c.if-not-has_field.false in
      let v = name_told before c.reference_at-found.result in
      let is = ap (name_told before) c.reference_at-found.ensures ∙ place_tells before g _ _ (reference_placed before g c.args.thread serial may c.args.base c.in-Some.object at.0 at.1 c.args.index low) in
      subst (λ s. IsDone before s g c.args.thread (op.Load c.args.dest c.args.base c.args.index) (reply.Loaded v)) (sym c.hold.ensures)
      (subst (λ p. IsDone before (with_places before (slice_set before.registers.items (register_index c.args.thread c.args.dest) p)) g c.args.thread (op.Load c.args.dest c.args.base c.args.index) (reply.Loaded v))
      (sym c.reference_at-found.ensures)
      (load_done before g c.args.thread serial may c.args.base c.in-Some.object at.0 at.1 c.args.dest c.args.index v (c.ranges.dest.fits, c.ranges.base.fits) low is)),
)

pub reference_at-found-requires-clause-used : goal.reference_at-found-requires-clause-used
reference_at-found-requires-clause-used c =
    let low = c.has_field.ensures.there.0 c.if-not-has_field.false in
    (c.base_of.ensures.inside c.in-Some.object c.in-Some.is).used _ (omega arith) (omega (arith, low))
