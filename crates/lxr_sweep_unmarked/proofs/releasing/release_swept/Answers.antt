use Rattle.std.proofs.Common.{arith}
use Rattle.lxr_pause_decrements.proofs.SpaceLemmas.{keeps_both, keeps_none}
use Rattle.lxr_sweep_unmarked.proofs.ReleasingLemmas.{object_begins, object_ends, object_goes_on, object_header, object_place}
use Rattle.lxr_sweep_unmarked.proofs.releasing.release_swept.Goals as goal

pub reference_slots-count-requires : goal.reference_slots-count-requires
reference_slots-count-requires c = let h = object_place c.args.space.now c.args.place c.requires.0 c.requires.1 c.requires.2 c.requires.3 in record {
  space = c.requires.3.stage.stage.space;
  place = (h.0, h.1);
  heap = h.2;
}

pub loop-i-init : goal.loop-i-init
loop-i-init c = record { reaches = λ st r rest is. object_begins c.args.space.now c.args.place st r rest is; keeps = keeps_none c.args.space.now }

pub lower_left-requires : goal.lower_left-requires
lower_left-requires c =
    let st = c.requires.0 in
    let r = c.requires.1 in
    let rest = c.requires.2 in
    let is = c.requires.3 in
    let h = object_header c.args.space.now c.args.place st r rest is in
    let e = c.reference_slots-count.ensures r h.0 h.1 in
    let t = c.loop-i-test.true in
    (_, r, rest, object_goes_on c.args.space.now c.args.place st r rest is c.loop-i.space c.loop-i.i (omega (arith, e, h.2, t)) (c.loop-i.invariant.reaches st r rest is))

pub loop-i-preserved : goal.loop-i-preserved
loop-i-preserved c = record {
  reaches = λ st r rest is.
      let h = object_header c.args.space.now c.args.place st r rest is in
      let e = c.reference_slots-count.ensures r h.0 h.1 in
      let t = c.loop-i-test.true in
      c.lower_left.ensures.reaches _ r rest (object_goes_on c.args.space.now c.args.place st r rest is c.loop-i.space c.loop-i.i (omega (arith, e, h.2, t)) (c.loop-i.invariant.reaches st r rest is));
  keeps = keeps_both c.args.space.now c.loop-i.space c.lower_left.new.space c.loop-i.invariant.keeps c.lower_left.ensures.keeps;
}

pub returns-clause-reaches : goal.returns-clause-reaches
returns-clause-reaches c = λ st r rest is.
    let h = object_header c.args.space.now c.args.place st r rest is in
    let e = c.reference_slots-count.ensures r h.0 h.1 in
    let t = c.loop-i-test.false in
    let u = c.loop-i.auto.i-end in
    object_ends c.loop-i.space c.loop-i.i st r rest (omega (arith, e, h.2, t, u)) (c.loop-i.invariant.reaches st r rest is)
