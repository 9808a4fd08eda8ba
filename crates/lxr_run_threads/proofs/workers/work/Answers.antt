use Rattle.std.proofs.Common.{rules, ◌≡◌, ◌++◌, false, true, All, length, take, drop, sym, subst, ap, ◌∙◌}
use Rattle.lxr_hints.proofs.Lent.{put_back}
use Rattle.lxr_shared_passes.specs.Passing.{Passing}
use Rattle.lxr_core.specs.declared.actors.AnyActor.{AnyActor}
use Rattle.lxr_run_threads.specs.Dealing.{numbers_of}
use Rattle.lxr_run_threads.specs.Working.{HasPassed, HasServed, IsPassOf}
use Rattle.lxr_run_threads.proofs.workers.work.Goals as goal

-- The passes behind a round are those that the slice of them has then.

pub loop-some_go_on-preserved : goal.loop-some_go_on-preserved
loop-some_go_on-preserved g c =
    let P = HasPassed (g.G.Gate.passed c.args.gate.now) in
    let round = c.make_round-some_go_on in
    let was = c.as_mut_slice.ensures.value in
    let back : take c.loop-some_go_on.passes.len (round.new.passes ++ drop (length round.new.passes) c.loop-some_go_on.passes.items) ≡ round.new.passes = put_back _ round.new.passes _ (search rules) in
    record {
      each = subst (All (IsPassOf c.args.table.now)) (sym back) round.ensures.passes;
      numbers = ap numbers_of back ∙ (round.ensures.numbers ∙ (ap numbers_of was ∙ c.loop-some_go_on.invariant.numbers));
      passed = λ all. subst (All P) (sym back) (round.ensures.passed (subst (All P) (sym was) (c.loop-some_go_on.invariant.passed all)));
      served = λ stops. subst (All (λ (p : Passing AnyActor). HasServed p.actor)) (sym back) (round.ensures.done stops);
    }

pub loop-some_go_on-preserved-then-some_go_on : goal.loop-some_go_on-preserved-then-some_go_on
loop-some_go_on-preserved-then-some_go_on g c =
    let P = HasPassed (g.G.Gate.passed c.args.gate.now) in
    let round = c.make_round-some_go_on in
    let on = c.let_mutators_go_on in
    let was = c.as_mut_slice.ensures.value in
    let rounded = take c.loop-some_go_on.passes.len (round.new.passes ++ drop (length round.new.passes) c.loop-some_go_on.passes.items) in
    let back : rounded ≡ round.new.passes = put_back _ round.new.passes _ (search rules) in
    let then : c.as_mut_slice-then-some_go_on.result.now ≡ round.new.passes = c.as_mut_slice-then-some_go_on.ensures.value ∙ back in
    let end : take c.loop-some_go_on.passes.len (on.new.passes ++ drop (length on.new.passes) rounded) ≡ on.new.passes = put_back _ on.new.passes _ (search rules) in
    let goes = c.if-some_go_on.true in
    record {
      each = subst (All (IsPassOf c.args.table.now)) (sym end) on.ensures.passes;
      numbers = ap numbers_of end ∙ (on.ensures.numbers ∙ (ap numbers_of then ∙ (round.ensures.numbers ∙ (ap numbers_of was ∙ c.loop-some_go_on.invariant.numbers))));
      passed = λ all. subst (All P) (sym end) (on.ensures.passed (subst (All P) (sym then) (round.ensures.passed (subst (All P) (sym was) (c.loop-some_go_on.invariant.passed all)))));
      served = λ stops. let both : true ≡ false = sym goes ∙ stops in absurd (cc);
    }
