use Rattle.std.proofs.Common.{[], ◌+◌, arith, length, subst, sym}
use Rattle.lxr_invariant.specs.Counting.{occurrences_from}
use Rattle.lxr_model.proofs.ReachableLemmas.{dead_parts}
use Rattle.lxr_pause_decrements.specs.Cascade.{LooksFrom, held_by, later, looking}
use Rattle.lxr_pause_decrements.proofs.SpaceLemmas.{keeps_both, keeps_none}
use Rattle.lxr_pause_decrements.proofs.DrainLemmas.{object_header, object_place}
use Rattle.lxr_pause_decrements.proofs.DropLemmas.{look_begins, look_ends, look_goes_on}
use Rattle.lxr_pause_decrements.proofs.dropped.reclaim_referents.Goals as goal

pub reference_slots-count-requires : goal.reference_slots-count-requires
reference_slots-count-requires c =
    let is = c.requires.3 in
    let h = object_place c.args.space.now c.args.place c.requires.0 c.requires.1 is.looking.stage (dead_parts is.dead).member is.stands in
    record {
      space = is.looking.stage.space;
      place = (h.0, h.1);
      heap = h.2;
    }

pub loop-i-init : goal.loop-i-init
loop-i-init c = record {
  drains = λ st r rest is. look_begins c.args.space.now c.args.place.0 (length c.args.space.now.work.items) st r rest is;
  keeps = keeps_none c.args.space.now;
}

pub reclaim_field-requires : goal.reclaim_field-requires
reclaim_field-requires c =
    let st = c.requires.0 in
    let r = c.requires.1 in
    let rest = c.requires.2 in
    let is = c.requires.3 in
    let h = object_header c.args.space.now c.args.place st r is.looking.stage (dead_parts is.dead).member is.stands in
    let e = c.reference_slots-count.ensures r h.0 h.1 in
    let t = c.loop-i-test.true in
    let drains = c.loop-i.invariant.drains st r rest is in
    let st2 = later (looking st (λ o. rest o + occurrences_from (held_by st r) c.loop-i.i o)) drains.0 [] st.extra in
    let looks = look_goes_on c.args.space.now c.loop-i.space c.args.place.0 c.loop-i.i (length c.args.space.now.work.items) st r rest is (omega (arith, e, h.2, t)) drains in
    (st2, r, rest, subst (λ floor. LooksFrom c.loop-i.space c.args.place.0 c.loop-i.i floor st2 r rest) (sym c.len-floor.ensures) looks)

pub loop-i-preserved : goal.loop-i-preserved
loop-i-preserved c = record {
  drains = λ st r rest is.
      let h = object_header c.args.space.now c.args.place st r is.looking.stage (dead_parts is.dead).member is.stands in
      let e = c.reference_slots-count.ensures r h.0 h.1 in
      let t = c.loop-i-test.true in
      let drains = c.loop-i.invariant.drains st r rest is in
      let st2 = later (looking st (λ o. rest o + occurrences_from (held_by st r) c.loop-i.i o)) drains.0 [] st.extra in
      let looks = look_goes_on c.args.space.now c.loop-i.space c.args.place.0 c.loop-i.i (length c.args.space.now.work.items) st r rest is (omega (arith, e, h.2, t)) drains in
      c.reclaim_field.ensures.drops st2 r rest (subst (λ floor. LooksFrom c.loop-i.space c.args.place.0 c.loop-i.i floor st2 r rest) (sym c.len-floor.ensures) looks);
  keeps = keeps_both c.args.space.now c.loop-i.space c.reclaim_field.new.space c.loop-i.invariant.keeps c.reclaim_field.ensures.keeps;
}

pub returns-clause-drops : goal.returns-clause-drops
returns-clause-drops c = λ st r rest is.
    let h = object_header c.args.space.now c.args.place st r is.looking.stage (dead_parts is.dead).member is.stands in
    let e = c.reference_slots-count.ensures r h.0 h.1 in
    let t = c.loop-i-test.false in
    let u = c.loop-i.auto.i-end in
    look_ends c.loop-i.space c.loop-i.i st r rest (omega (arith, e, h.2, t, u)) (c.loop-i.invariant.drains st r rest is)
