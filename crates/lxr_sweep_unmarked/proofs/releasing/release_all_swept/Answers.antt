use Rattle.std.proofs.Common.{[], arith}
use Rattle.lxr_pause_decrements.proofs.SpaceLemmas.{keeps_both, keeps_none}
use Rattle.lxr_sweep_unmarked.specs.Releasing.{cascade_of, left_from, lowered_to}
use Rattle.lxr_sweep_unmarked.proofs.ReleasingLemmas.{all_begin, all_end, listed_all, object_is_left, released_still, swept_are_listed, under_all}
use Rattle.lxr_sweep_unmarked.proofs.releasing.release_all_swept.Goals as goal

pub loop-number-init : goal.loop-number-init
loop-number-init c = record { reaches = λ st is. all_begin c.args.space.now st is; keeps = keeps_none c.args.space.now }

pub at-place-requires : goal.at-place-requires
at-place-requires c =
    let st = c.requires.0 in
    let long = listed_all c.args.space.now st c.requires.1 in
    let t = c.loop-number-test.true in
    let n = c.len-count.ensures in
    swept_are_listed c.loop-number.space c.loop-number.number st (left_from st c.loop-number.number) (c.loop-number.invariant.reaches st c.requires.1) (omega (arith, long, t, n))

pub release_swept-requires : goal.release_swept-requires
release_swept-requires c =
    let st = c.requires.0 in
    let long = listed_all c.args.space.now st c.requires.1 in
    let t = c.loop-number-test.true in
    let n = c.len-count.ensures in
    let reaches = c.loop-number.invariant.reaches st c.requires.1 in
    let x = object_is_left c.loop-number.space c.loop-number.number c.at-place.result st reaches (omega (arith, long, t, n)) c.at-place.ensures in
    (_, x.0, _, x.1)

pub loop-number-preserved : goal.loop-number-preserved
loop-number-preserved c = record {
  reaches = λ st is.
      let long = listed_all c.args.space.now st is in
      let t = c.loop-number-test.true in
      let n = c.len-count.ensures in
      let reaches = c.loop-number.invariant.reaches st is in
      let x = object_is_left c.loop-number.space c.loop-number.number c.at-place.result st reaches (omega (arith, long, t, n)) c.at-place.ensures in
      c.release_swept.ensures.reaches _ x.0 _ x.1;
  keeps = keeps_both c.args.space.now c.loop-number.space c.release_swept.new.space c.loop-number.invariant.keeps c.release_swept.ensures.keeps;
}

pub drain-requires : goal.drain-requires
drain-requires c =
    let st = c.requires.0 in
    let t = c.loop-number-test.false in
    let u = c.loop-number.auto.number-end in
    let n = c.len-count.ensures in
    let reaches = all_end c.args.space.now c.loop-number.space c.loop-number.number st c.requires.1 (omega (arith, t, u, n)) (c.loop-number.invariant.reaches st c.requires.1) in
    (cascade_of (lowered_to st reaches.0 reaches.1 (λ o. 0)), under_all c.args.space.now c.loop-number.space c.len-count.result st c.requires.1 n reaches)

pub returns-clause-reaches : goal.returns-clause-reaches
returns-clause-reaches c = λ st is.
    let t = c.loop-number-test.false in
    let u = c.loop-number.auto.number-end in
    let n = c.len-count.ensures in
    let reaches = all_end c.args.space.now c.loop-number.space c.loop-number.number st is (omega (arith, t, u, n)) (c.loop-number.invariant.reaches st is) in
    let st2 = lowered_to st reaches.0 reaches.1 (λ o. 0) in
    let x = c.drain.ensures.drains (cascade_of st2) (under_all c.args.space.now c.loop-number.space c.len-count.result st is n reaches) in
    (x.0, released_still c.loop-number.space c.drain.new.space st2 x.0 [] (λ o. 0) c.drain.ensures.keeps reaches.2 x.1)

pub returns-clause-keeps : goal.returns-clause-keeps
returns-clause-keeps c = keeps_both c.args.space.now c.loop-number.space c.drain.new.space c.loop-number.invariant.keeps c.drain.ensures.keeps
