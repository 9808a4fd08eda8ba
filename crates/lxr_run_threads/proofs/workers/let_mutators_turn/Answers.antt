use Rattle.std.proofs.Common.{◌-◌, ◌<◌, length, arith}
use Rattle.std.proofs.lemmas.List.{length-set}
use Rattle.std.proofs.lemmas.Option.{slice_get-get_or}
use Rattle.lxr_run_threads.specs.Working.{HasPassed}
use Rattle.lxr_run_threads.proofs.RoundLemmas.{one_turn}
use Rattle.lxr_run_threads.proofs.workers.let_mutators_turn.Goals as goal

pub loop-left-preserved : goal.loop-left-preserved
loop-left-preserved g c =
    let left = c.loop-left.left in
    let passes = c.loop-left.passes in
    let few = c.loop-left.invariant.few in
    let some = c.loop-left-test.true in
    let below : left - 1 < length passes = omega arith in
    let turned = c.take_mutator_turn.new.pass in
    record {
      few = let many = length-set passes (left - 1) turned in omega arith;
      turns = one_turn c.args.table.now (HasPassed (g.G.Gate.passed c.args.gate.now)) c.args.passes.now passes (left - 1) _ turned c.loop-left.invariant.turns (slice_get-get_or passes (left - 1) _ below)
          c.take_mutator_turn.ensures.pass c.take_mutator_turn.ensures.number c.take_mutator_turn.ensures.nearer c.take_mutator_turn.ensures.passed;
    }
