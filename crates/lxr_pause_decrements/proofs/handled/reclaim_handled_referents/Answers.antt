use Rattle.std.proofs.Common.{arith, inl, inr, subst, sym}
use Rattle.std.proofs.lemmas.Bool.Decides.{eqb_tells}
use Rattle.lxr_image.specs.Spaces.{tables_of}
use Rattle.lxr_model.proofs.ReachableLemmas.{dead_parts}
use Rattle.lxr_pause_decrements.specs.Cascade.{later}
use Rattle.lxr_pause_decrements.specs.Handled.{HoldsUndone}
use Rattle.lxr_pause_decrements.proofs.SpaceLemmas.{keeps_both, keeps_none}
use Rattle.lxr_pause_decrements.proofs.DrainLemmas.{member_header, member_place}
use Rattle.lxr_pause_decrements.proofs.HandledLemmas.{header_before, holds_still, some_both, some_none}
use Rattle.lxr_pause_decrements.proofs.handled.reclaim_handled_referents.Goals as goal

pub reference_slots-count-requires : goal.reference_slots-count-requires
reference_slots-count-requires c =
    let is = c.requires.2 in
    let h = member_place c.args.space.now c.args.place.0 c.requires.0 c.requires.1 is.space is.handling.remains.ground (dead_parts c.requires.3).member c.requires.4 in
    record { space = is.space; place = (h.0, h.1); heap = h.2 }

pub loop-i-init : goal.loop-i-init
loop-i-init c = record { some = some_none c.args.space.now; undone = λ i within. absurd (omega (arith, within)); keeps = keeps_none c.args.space.now }

pub reclaim_handled_field-requires : goal.reclaim_handled_field-requires
reclaim_handled_field-requires c =
    let st = c.requires.0 in
    let r = c.requires.1 in
    let is = c.requires.2 in
    let in_r = (dead_parts c.requires.3).member in
    let h = member_header c.args.space.now c.args.place.0 st r is.handling.remains.ground in_r c.requires.4 in
    let e = c.reference_slots-count.ensures r h.0 h.1 in
    let t = c.loop-i-test.true in
    let x = c.loop-i.invariant.some.stage st is in
    (later st x.0 st.work st.extra, r, x.1, record { member = in_r; dead = c.requires.3; stands = c.requires.4; index = omega (arith, e, h.2, t) })

pub loop-i-preserved : goal.loop-i-preserved
loop-i-preserved c =
    let s = c.loop-i.space in
    let e = c.reclaim_handled_field.new.space in
    let is = c.loop-i.invariant in
    let then = c.reclaim_handled_field.ensures in
    record {
      some = some_both c.args.space.now s e is.some then.reclaims;
      undone = λ j within. elim (eqb_tells j c.loop-i.i) [
        | inl q ↦ subst (λ z. HoldsUndone (tables_of e) c.args.place.0 z) (sym q.1) then.undone
        | inr q ↦ let ne = q.1 in holds_still s e c.args.place.0 j then.keeps then.reclaims (is.undone j (omega (arith, within, ne)))
      ];
      keeps = keeps_both c.args.space.now s e is.keeps then.keeps;
    }

pub returns-clause-undone : goal.returns-clause-undone
returns-clause-undone c = λ n shape header j within.
    let e = c.reference_slots-count.ensures n shape (header_before c.args.space.now c.loop-i.space c.args.place.0 n shape c.loop-i.invariant.keeps header) in
    let t = c.loop-i-test.false in
    c.loop-i.invariant.undone j (omega (arith, within, e, t))
