use Rattle.std.proofs.Common.{◌≡◌, ℕ, ◌+◌, ◌<◌, ap, arith, length, subst, sym, ◌∙◌, []}
use Rattle.lxr_layout.specs.declared.TheConstants.{DECREMENT_COUNT}
use Rattle.lxr_image.specs.Spaces.{tables_of}
use Rattle.lxr_model.specs.References.{references_from}
use Rattle.lxr_pause_decrements.specs.Cascade.{LooksAt, drawn_count, drawn_from, later}
use Rattle.lxr_pause_decrements.proofs.SpaceLemmas.{keeps_both, keeps_none}
use Rattle.lxr_pause_decrements.proofs.DrainLemmas.{list_fits}
use Rattle.lxr_pause_decrements.proofs.DropLemmas.{drawn_begins, drawn_ends, entry_look, entry_small, from_entry, sought_floor}
use Rattle.lxr_pause_decrements.proofs.dropped.reclaim_drawn.Goals as goal

pub loop-k-init : goal.loop-k-init
loop-k-init c = record {
  stage = λ st handled is. drawn_begins c.args.space.now st handled _ is;
  keeps = keeps_none c.args.space.now;
}

pub decrement_at-place-requires : goal.decrement_at-place-requires
decrement_at-place-requires c =
    let x = c.loop-k.invariant.stage c.requires.0 c.requires.1 c.requires.2 in
    let fits = list_fits c.loop-k.space _ x.1 in
    let same : (tables_of c.loop-k.space).cursors DECREMENT_COUNT ≡ (tables_of c.args.space.now).cursors DECREMENT_COUNT = ap (λ f. f DECREMENT_COUNT) c.loop-k.invariant.keeps.cursors in
    let t = c.loop-k-test.true in
    let m = c.min-drawn.ensures in
    let n = c.cursor-2.ensures in
    record { space = x.1.space; at = omega (arith, fits.0, same, t, m, n) }

pub overflow_cast-place : goal.overflow_cast-place
overflow_cast-place c =
    let st = c.requires.0 in
    let s = c.args.space.now in
    let x = c.loop-k.invariant.stage st c.requires.1 c.requires.2 in
    let t = c.loop-k-test.true in
    let m = c.min-drawn.ensures in
    let d = c.cursor.ensures in
    let n = c.cursor-2.ensures in
    let within : c.loop-k.k < drawn_count (tables_of s) = omega (arith, t, m, d, n) in
    let y = entry_look s c.loop-k.space c.loop-k.k (length s.work.items) st x.0 c.requires.1 c.requires.2.between (sought_floor s st c.requires.1 _ c.requires.2) c.loop-k.invariant.keeps within x.1 in
    let small = entry_small c.loop-k.space ((tables_of c.loop-k.space).decs c.loop-k.k) (length s.work.items) _ y.0 _ y.1 in
    let e = c.decrement_at-place.ensures in
    omega (arith, small, e)

pub reclaim_dropped-requires : goal.reclaim_dropped-requires
reclaim_dropped-requires c =
    let st = c.requires.0 in
    let handled = c.requires.1 in
    let s = c.args.space.now in
    let now = c.loop-k.space in
    let x = c.loop-k.invariant.stage st handled c.requires.2 in
    let t = c.loop-k-test.true in
    let m = c.min-drawn.ensures in
    let d = c.cursor.ensures in
    let n = c.cursor-2.ensures in
    let within : c.loop-k.k < drawn_count (tables_of s) = omega (arith, t, m, d, n) in
    let under = sought_floor s st handled _ c.requires.2 ∙ sym c.len-floor.ensures in
    let y = entry_look s now c.loop-k.k c.len-floor.result st x.0 handled c.requires.2.between under c.loop-k.invariant.keeps within x.1 in
    let stage = from_entry (tables_of s) (later st x.0 [] (λ o. 0)) handled c.loop-k.k in
    let rest : _ → ℕ = λ o. references_from st.moment.last.graph handled o + drawn_from (tables_of s) (c.loop-k.k + 1) (st.at o) in
    (stage, y.0, rest, subst (λ p. LooksAt now p c.len-floor.result stage y.0 rest) (sym c.decrement_at-place.ensures) y.1)

pub loop-k-preserved : goal.loop-k-preserved
loop-k-preserved c =
    let s = c.args.space.now in
    let now = c.loop-k.space in
    let t = c.loop-k-test.true in
    let m = c.min-drawn.ensures in
    let d = c.cursor.ensures in
    let n = c.cursor-2.ensures in
    let within : c.loop-k.k < drawn_count (tables_of s) = omega (arith, t, m, d, n) in
    record {
      stage = λ st handled is.
          let x = c.loop-k.invariant.stage st handled is in
          let under = sought_floor s st handled _ is ∙ sym c.len-floor.ensures in
          let y = entry_look s now c.loop-k.k c.len-floor.result st x.0 handled is.between under c.loop-k.invariant.keeps within x.1 in
          let stage = from_entry (tables_of s) (later st x.0 [] (λ o. 0)) handled c.loop-k.k in
          let rest : _ → ℕ = λ o. references_from st.moment.last.graph handled o + drawn_from (tables_of s) (c.loop-k.k + 1) (st.at o) in
          c.reclaim_dropped.ensures.drops stage y.0 rest (subst (λ p. LooksAt now p c.len-floor.result stage y.0 rest) (sym c.decrement_at-place.ensures) y.1);
      keeps = keeps_both s now c.reclaim_dropped.new.space c.loop-k.invariant.keeps c.reclaim_dropped.ensures.keeps;
    }

pub returns-clause-drops : goal.returns-clause-drops
returns-clause-drops c = λ st handled is.
    let s = c.args.space.now in
    let x = c.loop-k.invariant.stage st handled is in
    let t = c.loop-k-test.false in
    let m = c.min-drawn.ensures in
    let d = c.cursor.ensures in
    let n = c.cursor-2.ensures in
    (x.0, drawn_ends s c.loop-k.space c.loop-k.k st x.0 handled _ is (omega (arith, t, m, d, n)) x.1)
