use Rattle.std.proofs.Common.{◌≤◌, arith, length, refl, sym}
use Rattle.lxr_pause_decrements.specs.Cascade.{later}
use Rattle.lxr_pause_decrements.proofs.SpaceLemmas.{keeps_both}
use Rattle.lxr_pause_decrements.proofs.DrainLemmas.{popped, popped_cursors, popped_leaves, ungrayed_same}
use Rattle.lxr_pause_decrements.proofs.finish.drain.Goals as goal

pub release-requires : goal.release-requires
release-requires c =
    let st = c.requires.0 in
    let x = c.loop-place.invariant.reaches st c.requires.1 in
    let above : length st.under ≤ length c.pop_above.new.work.items = let f = c.requires.1.under in let a = c.in-Some.ensures.1 in omega (arith, f, a) in
    let y = popped c.loop-place.space (record c.loop-place.space { work = c.pop_above.new.work }) c.in-Some.place (later st x.0 x.1 st.extra) x.2 c.requires.1.between above c.in-Some.ensures.0 refl in
    (_, y.1, _, y.2)

pub loop-place-preserved : goal.loop-place-preserved
loop-place-preserved c =
    let left = popped_leaves c.loop-place.space (record c.loop-place.space { work = c.pop_above.new.work }) c.in-Some.place c.in-Some.ensures.0 refl in
    record {
      reaches = λ st is.
          let x = c.loop-place.invariant.reaches st is in
          let above : length st.under ≤ length c.pop_above.new.work.items = let f = is.under in let a = c.in-Some.ensures.1 in omega (arith, f, a) in
          let y = popped c.loop-place.space (record c.loop-place.space { work = c.pop_above.new.work }) c.in-Some.place (later st x.0 x.1 st.extra) x.2 is.between above c.in-Some.ensures.0 refl in
          ungrayed_same c.release.new.space st st.extra (λ o. 0) st.ungrayed (λ o. sym (is.between o)) (c.release.ensures.reaches _ y.1 st.extra y.2);
      keeps = keeps_both c.args.space.now c.loop-place.space c.release.new.space c.loop-place.invariant.keeps
          (keeps_both c.loop-place.space (record c.loop-place.space { work = c.pop_above.new.work }) c.release.new.space (record { leaves = left; cursors = popped_cursors c.loop-place.space (record c.loop-place.space { work = c.pop_above.new.work }) refl }) c.release.ensures.keeps);
    }
