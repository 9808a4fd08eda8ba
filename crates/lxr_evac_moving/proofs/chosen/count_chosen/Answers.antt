use Rattle.std.proofs.Common.{◌+◌, ◌∙◌, ap, arith, sym}
use Rattle.lxr_evac_moving.proofs.BeginLemmas.{all_counted, none_counted, one_counted}
use Rattle.lxr_evac_moving.proofs.chosen.count_chosen.Goals as goal

pub loop-granule-init : goal.loop-granule-init
loop-granule-init c = record { count = λ m at can. sym (none_counted c.args.space.now m at can); few = omega arith; within = omega arith }

pub loop-granule-preserved : goal.loop-granule-preserved
loop-granule-preserved c =
    let next = c.in-Some.ensures.next in
    let reached = next.reached in
    let within = next.within in
    let few = c.loop-granule.invariant.few in
    record {
      count = λ m at can. ap (λ k. k + 1) (c.loop-granule.invariant.count m at can) ∙ sym (one_counted c.args.space.now m at can c.loop-granule.from c.in-Some.granule next);
      few = omega (arith, few, reached);
      within = omega (arith, within);
    }

pub returns-clause-count : goal.returns-clause-count
returns-clause-count c = λ m at can. c.loop-granule.invariant.count m at can ∙ sym (all_counted c.args.space.now m at can c.loop-granule.from c.loop-granule.invariant.within c.in_default.ensures.none)
