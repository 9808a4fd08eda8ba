use Rattle.std.proofs.Common.{◌≡◌, ap, arith}
use Rattle.lxr_pause_decrements.specs.Cascade.{later}
use Rattle.lxr_pause_decrements.proofs.SpaceLemmas.{keeps_both, keeps_none}
use Rattle.lxr_pause_decrements.proofs.HandledLemmas.{some_both, some_none}
use Rattle.lxr_pause_decrements.proofs.FoundLemmas.{few_listed, listed_dead, through_all, through_more}
use Rattle.lxr_pause_decrements.proofs.handled.reclaim_handled_referred.Goals as goal

pub loop-from-init : goal.loop-from-init
loop-from-init c = record { some = some_none c.args.space.now; through = λ j p within. absurd (omega (arith, within)); keeps = keeps_none c.args.space.now }

pub reclaim_handled_referents-requires : goal.reclaim_handled_referents-requires
reclaim_handled_referents-requires c =
    let st = c.requires.0 in
    let x = c.loop-from.invariant.some.stage st c.requires.1 in
    let all = later st x.0 st.work st.extra in
    let y = listed_dead c.loop-from.space all c.loop-from.from c.at-place.result x.1 c.at-place.ensures in
    (all, y.0, x.1, y.1, y.2)

pub loop-from-preserved : goal.loop-from-preserved
loop-from-preserved c =
    let s = c.loop-from.space in
    let e = c.reclaim_handled_referents.new.space in
    let is = c.loop-from.invariant in
    let then = c.reclaim_handled_referents.ensures in
    record {
      some = some_both c.args.space.now s e is.some then.reclaims;
      through = through_more s e c.loop-from.from c.at-place.result then.keeps then.reclaims c.at-place.ensures is.through then.undone;
      keeps = keeps_both c.args.space.now s e is.keeps then.keeps;
    }

pub loop-from-smaller : goal.loop-from-smaller
loop-from-smaller c =
    let st = c.requires.0 in
    let x = c.loop-from.invariant.some.stage st c.requires.1 in
    let few = few_listed c.loop-from.space (later st x.0 st.work st.extra) x.1 in
    let limits : c.loop-from.space.limits.blocks ≡ c.args.space.now.limits.blocks = ap (λ z. z.limits.blocks) c.loop-from.invariant.keeps.leaves.rest in
    let t = c.loop-from-test.true in
    let n = c.len.ensures in
    omega (arith, few, limits, t, n)

pub returns-clause-undone : goal.returns-clause-undone
returns-clause-undone c =
    let t = c.loop-from-test.false in
    let n = c.len.ensures in
    through_all c.loop-from.space c.loop-from.from (omega (arith, t, n)) c.loop-from.invariant.through
