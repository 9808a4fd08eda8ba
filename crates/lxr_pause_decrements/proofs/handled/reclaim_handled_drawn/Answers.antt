use Rattle.std.proofs.Common.{◌≡◌, ap, arith}
use Rattle.lxr_layout.specs.declared.TheConstants.{DECREMENT_COUNT, DECREMENT_CURSOR}
use Rattle.lxr_image.specs.Spaces.{tables_of}
use Rattle.lxr_pause_decrements.proofs.SpaceLemmas.{keeps_both, keeps_none}
use Rattle.lxr_pause_decrements.proofs.HandledLemmas.{some_both, some_none}
use Rattle.lxr_pause_decrements.proofs.FoundLemmas.{entry_place, first_more}
use Rattle.lxr_pause_decrements.proofs.handled.reclaim_handled_drawn.Goals as goal

pub loop-k-init : goal.loop-k-init
loop-k-init c = record { some = some_none c.args.space.now; undone = λ j within. absurd (omega (arith, within)); keeps = keeps_none c.args.space.now }

pub overflow_cast-place : goal.overflow_cast-place
overflow_cast-place c =
    let x = c.loop-k.invariant.some.stage c.requires.0 c.requires.1 in
    let same : (tables_of c.loop-k.space).cursors DECREMENT_COUNT ≡ (tables_of c.args.space.now).cursors DECREMENT_COUNT = ap (λ f. f DECREMENT_COUNT) c.loop-k.invariant.keeps.cursors in
    let t = c.loop-k-test.true in
    let m = c.min-drawn.ensures in
    let n = c.cursor-2.ensures in
    let h = entry_place c.loop-k.space _ c.loop-k.k x.1 (omega (arith, same, t, m, n)) in
    let e = c.decrement_at-place.ensures in
    omega (arith, h.1, e)

pub reclaim_handled-requires-clause-place : goal.reclaim_handled-requires-clause-place
reclaim_handled-requires-clause-place c =
    let x = c.loop-k.invariant.some.stage c.requires.0 c.requires.1 in
    let same : (tables_of c.loop-k.space).cursors DECREMENT_COUNT ≡ (tables_of c.args.space.now).cursors DECREMENT_COUNT = ap (λ f. f DECREMENT_COUNT) c.loop-k.invariant.keeps.cursors in
    let t = c.loop-k-test.true in
    let m = c.min-drawn.ensures in
    let n = c.cursor-2.ensures in
    let h = entry_place c.loop-k.space _ c.loop-k.k x.1 (omega (arith, same, t, m, n)) in
    let e = c.decrement_at-place.ensures in
    (omega (arith, h.0, e), omega (arith, h.1, e))

pub reclaim_handled-requires-clause-heap : goal.reclaim_handled-requires-clause-heap
reclaim_handled-requires-clause-heap c =
    let x = c.loop-k.invariant.some.stage c.requires.0 c.requires.1 in
    let same : (tables_of c.loop-k.space).cursors DECREMENT_COUNT ≡ (tables_of c.args.space.now).cursors DECREMENT_COUNT = ap (λ f. f DECREMENT_COUNT) c.loop-k.invariant.keeps.cursors in
    let t = c.loop-k-test.true in
    let m = c.min-drawn.ensures in
    let n = c.cursor-2.ensures in
    let h = entry_place c.loop-k.space _ c.loop-k.k x.1 (omega (arith, same, t, m, n)) in
    let e = c.decrement_at-place.ensures in
    omega (arith, h.2, e)

pub loop-k-preserved : goal.loop-k-preserved
loop-k-preserved c =
    let is = c.loop-k.invariant in
    let then = c.reclaim_handled.ensures in
    record {
      some = some_both c.args.space.now c.loop-k.space c.reclaim_handled.new.space is.some then.reclaims;
      undone = first_more c.loop-k.space c.reclaim_handled.new.space c.loop-k.k c.decrement_at-place.result then.keeps then.reclaims c.decrement_at-place.ensures is.undone then.undone;
      keeps = keeps_both c.args.space.now c.loop-k.space c.reclaim_handled.new.space is.keeps then.keeps;
    }

pub returns-clause-undone : goal.returns-clause-undone
returns-clause-undone c = λ j within.
    let d : (tables_of c.loop-k.space).cursors DECREMENT_CURSOR ≡ (tables_of c.args.space.now).cursors DECREMENT_CURSOR = ap (λ f. f DECREMENT_CURSOR) c.loop-k.invariant.keeps.cursors in
    let n : (tables_of c.loop-k.space).cursors DECREMENT_COUNT ≡ (tables_of c.args.space.now).cursors DECREMENT_COUNT = ap (λ f. f DECREMENT_COUNT) c.loop-k.invariant.keeps.cursors in
    let t = c.loop-k-test.false in
    let m = c.min-drawn.ensures in
    let a = c.cursor.ensures in
    let b = c.cursor-2.ensures in
    c.loop-k.invariant.undone j (omega (arith, within, d, n, t, m, a, b))
