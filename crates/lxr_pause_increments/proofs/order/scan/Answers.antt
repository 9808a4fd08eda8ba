use Rattle.std.proofs.Common.{◌∙◌, arith, inl, refl}
use Rattle.lxr_pause_increments.proofs.FewLemmas.{can_enter}
use Rattle.lxr_pause_increments.proofs.FrameLemmas.{leaves_both, leaves_none}
use Rattle.lxr_pause_increments.proofs.HeldLemmas.{goes_both, goes_none, promoted_holder}
use Rattle.lxr_pause_increments.proofs.ScanLemmas.{scanned_all, scanned_more}
use Rattle.lxr_pause_increments.proofs.order.scan.Goals as goal

pub reference_slots-count-requires : goal.reference_slots-count-requires
reference_slots-count-requires c =
    let r = c.requires.may in
    (r.0, r.1, r.2, r.3, r.5.accounted.incrementing, promoted_holder c.args.space.now r.0 r.1 r.2 r.3 c.args.place.0 r.5.accounted.incrementing r.5.promoted r.5.stands)

pub loop-index-init : goal.loop-index-init
loop-index-init c = record { scanning = λ m at st u base is. (st, is, goes_none c.args.space.now m st); left = refl; leaves = leaves_none c.args.space.now; short = c.requires.short }

pub raise_field-requires-clause-may : goal.raise_field-requires-clause-may
raise_field-requires-clause-may c =
    let m = c.requires.may.0 in
    let at = c.requires.may.1 in
    let u = c.requires.may.3 in
    let is = c.requires.may.5 in
    let holder = promoted_holder c.args.space.now m at c.requires.may.2 u c.args.place.0 is.accounted.incrementing is.promoted is.stands in
    let count = c.reference_slots-count.ensures m at c.requires.may.2 u is.accounted.incrementing holder in
    let x = c.loop-index.invariant.scanning m at c.requires.may.2 u c.requires.may.4 is in
    let t = c.loop-index-test.true in (
      m,
      at,
      x.0,
      u,
      x.1.accounted.incrementing,
      promoted_holder c.loop-index.space m at x.0 u c.args.place.0 x.1.accounted.incrementing x.1.promoted x.1.stands,
      record { within = omega (arith, count, t); changes = inl x.1.promoted },
      can_enter c.loop-index.space m at x.0 _ _ _ x.1.accounted,
    )

pub loop-index-preserved : goal.loop-index-preserved
loop-index-preserved c = record {
  scanning = λ m at st u base is.
      let holder = promoted_holder c.args.space.now m at st u c.args.place.0 is.accounted.incrementing is.promoted is.stands in
      let count = c.reference_slots-count.ensures m at st u is.accounted.incrementing holder in
      let x = c.loop-index.invariant.scanning m at st u base is in
      let t = c.loop-index-test.true in
      let later = promoted_holder c.loop-index.space m at x.0 u c.args.place.0 x.1.accounted.incrementing x.1.promoted x.1.stands in
      let y = c.raise_field.ensures.raises m at x.0 u x.1.accounted.incrementing later (record { within = omega (arith, count, t); changes = inl x.1.promoted }) in (
        _,
        scanned_more c.loop-index.space c.raise_field.new.space c.args.place.0 c.loop-index.index m at x.0 u base y.0 x.1 (omega (arith, count, t)) y.1,
        goes_both c.args.space.now c.loop-index.space c.raise_field.new.space m st x.0 _ x.2 y.1.goes_on,
      );
  left = c.raise_field.ensures.left ∙ c.loop-index.invariant.left;
  leaves = leaves_both c.args.space.now c.loop-index.space c.raise_field.new.space c.loop-index.invariant.leaves c.raise_field.ensures.leaves;
  short = c.raise_field.ensures.short;
}

pub returns-clause-reaches : goal.returns-clause-reaches
returns-clause-reaches c = λ m at st u base is.
    let holder = promoted_holder c.args.space.now m at st u c.args.place.0 is.accounted.incrementing is.promoted is.stands in
    let count = c.reference_slots-count.ensures m at st u is.accounted.incrementing holder in
    let x = c.loop-index.invariant.scanning m at st u base is in
    let t = c.loop-index-test.false in
    let e = c.loop-index.auto.index-end in
    (x.0, scanned_all c.loop-index.space c.args.place.0 c.loop-index.index m at x.0 u base (omega (arith, count, t, e)) x.1, x.2)
