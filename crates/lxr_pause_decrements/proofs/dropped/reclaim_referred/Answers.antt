use Rattle.std.proofs.Common.{◌≡◌, ap, refl, subst, sym, []}
use Rattle.lxr_layout.specs.declared.Place.{Place}
use Rattle.lxr_base.specs.Roomy.{Roomy}
use Rattle.lxr_pause_decrements.specs.Cascade.{IsOpening, later, seeking}
use Rattle.lxr_pause_decrements.proofs.SpaceLemmas.{keeps_both, keeps_none}
use Rattle.lxr_pause_decrements.proofs.DrainLemmas.{popped_cursors, popped_leaves}
use Rattle.lxr_pause_decrements.proofs.DropLemmas.{all_looked, drawn_begins, fewer_places, last_handled, last_looked, taken_out}
use Rattle.lxr_pause_decrements.proofs.dropped.reclaim_referred.Goals as goal

pub loop-place-init : goal.loop-place-init
loop-place-init c = record {
  stage = λ st handled is. let x = drawn_begins c.args.space.now st handled (λ o. 0) is in (x.0, handled, record { stage = x.1; work = refl; between = is.between; extra = λ o. refl; dead = is.dead });
  keeps = keeps_none c.args.space.now;
}

pub reclaim_referents-requires : goal.reclaim_referents-requires
reclaim_referents-requires c =
    let st = c.requires.0 in
    let x = c.loop-place.invariant.stage st c.requires.1 c.requires.2 in
    let y = last_handled c.loop-place.space (record c.loop-place.space { work = c.pop_above.new.work }) c.in-Some.place st x.0 x.1 x.2 c.in-Some.ensures.0 refl in
    (taken_out st x.0 x.1 y.0, y.1, _, y.2.through)

pub loop-place-preserved : goal.loop-place-preserved
loop-place-preserved c =
    let now = record c.loop-place.space { work = c.pop_above.new.work } in
    let left = popped_leaves c.loop-place.space now c.in-Some.place c.in-Some.ensures.0 refl in
    record {
      stage = λ st handled is.
          let x = c.loop-place.invariant.stage st handled is in
          let y = last_handled c.loop-place.space now c.in-Some.place st x.0 x.1 x.2 c.in-Some.ensures.0 refl in
          let z = c.reclaim_referents.ensures.drops (taken_out st x.0 x.1 y.0) y.1 _ y.2.through in
          (z.0, y.0, last_looked now c.reclaim_referents.new.space c.in-Some.place.0 st x.0 x.1 y.0 y.1 is.between y.2 z);
      keeps = keeps_both c.args.space.now c.loop-place.space c.reclaim_referents.new.space c.loop-place.invariant.keeps
          (keeps_both c.loop-place.space now c.reclaim_referents.new.space (record { leaves = left; cursors = popped_cursors c.loop-place.space now refl }) c.reclaim_referents.ensures.keeps);
    }

pub loop-place-smaller : goal.loop-place-smaller
loop-place-smaller c =
    let st = c.requires.0 in
    let now = record c.loop-place.space { work = c.pop_above.new.work } in
    let x = c.loop-place.invariant.stage st c.requires.1 c.requires.2 in
    let y = last_handled c.loop-place.space now c.in-Some.place st x.0 x.1 x.2 c.in-Some.ensures.0 refl in
    let z = c.reclaim_referents.ensures.drops (taken_out st x.0 x.1 y.0) y.1 _ y.2.through in
    let then = last_looked now c.reclaim_referents.new.space c.in-Some.place.0 st x.0 x.1 y.0 y.1 c.requires.2.between y.2 z in
    fewer_places c.loop-place.space c.reclaim_referents.new.space (later st x.0 [] (λ o. 0)) (later st z.0 [] (λ o. 0)) x.1 y.0 y.1 (λ o. 0) (λ o. 0) x.2 then y.2.last

pub returns-clause-drops : goal.returns-clause-drops
returns-clause-drops c = λ st handled is.
    let x = c.loop-place.invariant.stage st handled is in
    let same : c.loop-place.space ≡ record c.loop-place.space { work = c.pop_above.new.work } = ap {A = Roomy Place} (λ w. record c.loop-place.space { work = w }) (sym c.in_default.ensures.1) in
    (x.0, subst (λ s. IsOpening s (seeking (later st x.0 [] (λ o. 0)) [] (λ o. 0))) same (all_looked c.loop-place.space st x.0 x.1 x.2 c.in_default.ensures.0))
