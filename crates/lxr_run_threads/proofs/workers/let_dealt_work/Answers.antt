use Rattle.std.proofs.Common.{rules, ◌≡◌, ◌-◌, ◌*◌, All, List, sym, subst, ◌∙◌}
use Rattle.lxr_run_threads.specs.declared.dealing.Hand.{Hand}
use Rattle.lxr_run_threads.specs.Dealing.{OfEach, numbers_from, numbers_of}
use Rattle.lxr_run_threads.specs.Working.{HasPassed, IsDoneOf, IsPassOf}
use Rattle.lxr_run_threads.proofs.DealingLemmas.{dealt_hold, gathered_hold}
use Rattle.lxr_run_threads.proofs.EpochLemmas.{all_each, each_all, given_back}
use Rattle.lxr_hints.proofs.Lent.{put_back}
use Rattle.lxr_run_threads.proofs.workers.let_dealt_work.Goals as goal

pub let_work-requires-clause-passes : goal.let_work-requires-clause-passes
let_work-requires-clause-passes g c κs within =
    let each = c.in_ok-hands.ensures.each c.args.table.now c.requires.passes in
    subst (λ (hands : List Hand). All (λ (h : Hand). All (IsPassOf c.args.table.now) h.passes.items) hands) (sym c.as_mut_slice.ensures.value) (each_all (IsPassOf c.args.table.now) _ each)

pub gather-requires-clause-dealt : goal.gather-requires-clause-dealt
gather-requires-clause-dealt g c =
    let back : c.as_mut_slice-2.result.now ≡ c.let_work.new.hands = c.as_mut_slice-2.ensures.value ∙ put_back _ c.let_work.new.hands _ (search rules) in
    given_back (record { mutators = c.len-count.result - 2 * c.from-workers.result; workers = c.from-workers.result }) c.args.passes.len c.len-count.result c.in_ok-hands.hands.items c.as_mut_slice.result.now
    c.let_work.new.hands c.as_mut_slice-2.result.now c.in_ok-hands.ensures.dealt c.as_mut_slice.ensures.value c.let_work.ensures.numbers back c.len-count.ensures

pub returns : goal.returns
returns g c =
    let passed = g.G.Gate.passed c.args.gate.now in
    let table = c.args.table.now in
    let back : c.as_mut_slice-2.result.now ≡ c.let_work.new.hands = c.as_mut_slice-2.ensures.value ∙ put_back _ c.let_work.new.hands _ (search rules) in
    record {
      done = c.gather.ensures.each table (subst (OfEach (IsDoneOf table)) (sym back) (all_each (IsDoneOf table) c.let_work.new.hands c.let_work.ensures.passes));
      numbers = c.gather.ensures.order ∙ sym (subst (λ n. numbers_of c.args.passes.items ≡ numbers_from 0 n) (sym c.len-count.ensures) c.requires.order);
      passed_on = λ all.
          let lent = subst (λ (hands : List Hand). All (λ (h : Hand). All (HasPassed passed) h.passes.items) hands) (sym c.as_mut_slice.ensures.value)
          (each_all (HasPassed passed) _ (dealt_hold (HasPassed passed) c.args.passes.items c.in_ok-hands.hands.items all c.in_ok-hands.ensures.among)) in
          let worked = subst (OfEach (HasPassed passed)) (sym back) (all_each (HasPassed passed) c.let_work.new.hands (c.let_work.ensures.passed lent)) in
          gathered_hold (HasPassed passed) c.as_mut_slice-2.result.now c.gather.new.passes.items worked c.gather.ensures.among;
    }
