use Rattle.std.proofs.Common.{[], ap, length, refl}
use Rattle.lxr_pause_decrements.specs.Cascade.{later}
use Rattle.lxr_pause_decrements.proofs.SpaceLemmas.{leaves_both, leaves_none}
use Rattle.lxr_pause_decrements.proofs.DrainLemmas.{opened}
use Rattle.lxr_pause_decrements.proofs.DropLemmas.{finished}
use Rattle.lxr_pause_decrements.proofs.finish.lower_all.Goals as goal

pub lower_place-requires : goal.lower_place-requires
lower_place-requires c =
    let st = c.requires.0 in
    let x = c.loop-space.invariant.stage st c.requires.1 in
    let y = c.take_decrement-place.ensures.taken (later st x.0 [] (λ o. 0)) x.1 in
    (_, y.0, _, y.1)

pub drain-requires : goal.drain-requires
drain-requires c =
    let st = c.requires.0 in
    let x = c.loop-space.invariant.stage st c.requires.1 in
    let y = c.take_decrement-place.ensures.taken (later st x.0 [] (λ o. 0)) x.1 in
    let z = c.lower_place.ensures.reaches _ y.0 _ y.1 in
    (_, record { stage = z.2; under = ap length c.requires.1.under; between = c.requires.1.between })

pub loop-space-init : goal.loop-space-init
loop-space-init c = record { stage = λ st is. opened c.args.space.now st is; leaves = leaves_none c.args.space.now }

pub loop-space-preserved : goal.loop-space-preserved
loop-space-preserved c = record {
  stage = λ st is.
      let x = c.loop-space.invariant.stage st is in
      let y = c.take_decrement-place.ensures.taken (later st x.0 [] (λ o. 0)) x.1 in
      let z = c.lower_place.ensures.reaches _ y.0 _ y.1 in
      c.drain.ensures.drains _ (record { stage = z.2; under = ap length is.under; between = is.between });
  leaves = leaves_both c.args.space.now c.loop-space.space c.drain.new.space c.loop-space.invariant.leaves
      (leaves_both c.loop-space.space c.take_decrement-place.new.space c.drain.new.space c.take_decrement-place.ensures.leaves
      (leaves_both c.take_decrement-place.new.space c.lower_place.new.space c.drain.new.space c.lower_place.ensures.keeps.leaves c.drain.ensures.keeps.leaves));
}

pub empty_list-requires-clause-opening : goal.empty_list-requires-clause-opening
empty_list-requires-clause-opening c =
    let st = c.requires.0 in
    let x = c.loop-space.invariant.stage st c.requires.1 in
    (_, record { stage = x.1; work = refl; under = c.requires.1.under; between = c.requires.1.between; extra = λ o. refl; unseen = c.requires.1.unseen })

pub returns-clause-lowers : goal.returns-clause-lowers
returns-clause-lowers c = λ st is.
    let x = c.loop-space.invariant.stage st is in
    (x.0, finished c.empty_list.new.space (later st x.0 [] (λ o. 0)) (c.empty_list.ensures.empties (later st x.0 [] (λ o. 0)) (record { stage = x.1; work = refl; under = is.under; between = is.between; extra = λ o. refl; unseen = is.unseen })))

pub returns-clause-leaves : goal.returns-clause-leaves
returns-clause-leaves c = leaves_both c.args.space.now c.loop-space.space c.empty_list.new.space c.loop-space.invariant.leaves c.empty_list.ensures.leaves
