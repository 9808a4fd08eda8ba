use Rattle.std.proofs.Common.{◌≡◌, ℕ, suc, ◌+◌, ◌-◌, ◌≤◌, sym, subst, arith}
use Rattle.lxr_layout.specs.declared.TheConstants.{DECREMENT_COUNT, DECREMENT_CURSOR}
use Rattle.lxr_image.specs.Spaces.{tables_of}
use Rattle.lxr_model_counting.specs.Lowering.{once}
use Rattle.lxr_pause_decrements.specs.Cascade.{Waiting, later}
use Rattle.lxr_pause_decrements.proofs.DrainLemmas.{last_place, last_taken}
use Rattle.lxr_pause_decrements.proofs.finish.take_decrement.Goals as goal

pub overflow_cast-result : goal.overflow_cast-result
overflow_cast-result c =
    let e : (tables_of c.args.space.now).cursors DECREMENT_COUNT ≡ suc (c.cursor-last.result - 1) = let w = c.cursor-last.ensures in let r = c.requires.waiting in omega (arith, w, r) in
    let h = last_place c.args.space.now c.requires.stage.0 (c.cursor-last.result - 1) c.requires.stage.1 e in
    let p = c.decrement_at-place.ensures in
    omega (arith, h, p)

pub returns-clause-taken : goal.returns-clause-taken
returns-clause-taken c = λ st at.
    let n : ℕ = c.cursor-last.result - 1 in
    let e : (tables_of c.args.space.now).cursors DECREMENT_COUNT ≡ suc n = let w = c.cursor-last.ensures in let r = c.requires.waiting in omega (arith, w, r) in
    let undrawn : (tables_of c.args.space.now).cursors DECREMENT_CURSOR ≤ n = let r = c.requires.waiting in omega (arith, e, r) in
    let x = last_taken c.args.space.now c.put_cursor.new.self st n at undrawn e c.put_cursor.ensures in
    (x.0, subst (λ z. Waiting c.put_cursor.new.self z (later st st.gone st.work (λ o. st.extra o + once o x.0)) x.0 st.extra) (sym c.decrement_at-place.ensures) x.1)
