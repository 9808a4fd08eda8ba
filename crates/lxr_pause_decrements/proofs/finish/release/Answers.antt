use Rattle.std.proofs.Common.{◌∙◌, ap, arith, refl, sym}
use Rattle.std.specs.Prelude.{nat_eq}
use Rattle.lxr_layout.specs.declared.TheConstants.{TRACING_WORD}
use Rattle.lxr_pause_decrements.proofs.SpaceLemmas.{keeps_both, keeps_none}
use Rattle.lxr_pause_decrements.proofs.DrainLemmas.{released_place, released_header, begins, field_waits, ends}
use Rattle.lxr_pause_decrements.proofs.finish.release.Goals as goal

pub reference_slots-count-requires : goal.reference_slots-count-requires
reference_slots-count-requires c = let h = released_place c.args.space.now c.args.place c.requires.0 c.requires.1 c.requires.2 c.requires.3 in record {
  space = c.requires.3.stage.space;
  place = (h.0, h.1);
  heap = h.2;
}

pub loop-i-init : goal.loop-i-init
loop-i-init c = record {
  reaches = λ st r rest re. begins c.args.space.now c.args.place.0 st r rest re;
  same = refl;
  keeps = keeps_none c.args.space.now;
}

pub lower_field-requires-clause-field : goal.lower_field-requires-clause-field
lower_field-requires-clause-field c =
    let st = c.requires.0 in
    let r = c.requires.1 in
    let rest = c.requires.2 in
    let re = c.requires.3 in
    let h = released_header c.args.space.now c.args.place st r rest re in
    let e = c.reference_slots-count.ensures r h.0 h.1 in
    let t = c.loop-i-test.true in
    let reaches = c.loop-i.invariant.reaches st r rest re in
    (_, r, rest, field_waits c.args.space.now c.loop-i.space c.args.place.0 c.loop-i.i st r rest re (omega (arith, e, h.2, t)) reaches)

pub lower_field-requires-clause-tracing : goal.lower_field-requires-clause-tracing
lower_field-requires-clause-tracing c = c.is_tracing-tracing.ensures ∙ ap (λ f. nat_eq (f TRACING_WORD) 1) (sym c.loop-i.invariant.keeps.cursors)

pub loop-i-preserved : goal.loop-i-preserved
loop-i-preserved c = record {
  reaches = λ st r rest re.
      let h = released_header c.args.space.now c.args.place st r rest re in
      let e = c.reference_slots-count.ensures r h.0 h.1 in
      let t = c.loop-i-test.true in
      let reaches = c.loop-i.invariant.reaches st r rest re in
      c.lower_field.ensures.reaches _ r rest (field_waits c.args.space.now c.loop-i.space c.args.place.0 c.loop-i.i st r rest re (omega (arith, e, h.2, t)) reaches);
  same = c.lower_field.ensures.to_do ∙ c.loop-i.invariant.same;
  keeps = keeps_both c.args.space.now c.loop-i.space c.lower_field.new.space c.loop-i.invariant.keeps c.lower_field.ensures.keeps;
}

pub returns-clause-reaches : goal.returns-clause-reaches
returns-clause-reaches c = λ st r rest re.
    let h = released_header c.args.space.now c.args.place st r rest re in
    let e = c.reference_slots-count.ensures r h.0 h.1 in
    let t = c.loop-i-test.false in
    let u = c.loop-i.auto.i-end in
    ends c.loop-i.space c.loop-i.i st r rest (omega (arith, e, h.2, t, u)) (c.loop-i.invariant.reaches st r rest re)
