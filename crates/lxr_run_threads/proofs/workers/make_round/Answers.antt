use Rattle.std.proofs.Common.{◌≡◌, ◌+◌, ◌-◌, ◌<◌, ◌||◌, length, arith, subst}
use Rattle.std.specs.Prelude.{slice_set}
use Rattle.std.proofs.lemmas.Option.{slice_get-get_or}
use Rattle.lxr_run_threads.specs.Working.{HasPassed}
use Rattle.lxr_run_threads.proofs.RoundLemmas.{IsInRound, all_served, round_on}
use Rattle.lxr_run_threads.proofs.workers.make_round.Goals as goal

pub loop-left-preserved-then-take_turn : goal.loop-left-preserved-then-take_turn
loop-left-preserved-then-take_turn g c =
    let left = c.loop-left.left in
    let passes = c.loop-left.passes in
    let some = c.loop-left-test.true in
    let few = c.loop-left.invariant.few in
    let below : left - 1 < length passes = omega arith in
    let next : left ≡ (left - 1) + 1 = omega arith in
    subst (λ goes. IsInRound c.args.table.now (HasPassed (g.G.Gate.passed c.args.gate.now)) c.args.passes.now (left - 1) (slice_set passes (left - 1) c.take_turn.new.pass) (goes || c.loop-left.some_go_on)) c.if-take_turn.true
    (round_on c.args.table.now (HasPassed (g.G.Gate.passed c.args.gate.now)) c.args.passes.now left (left - 1) passes c.loop-left.some_go_on c.take_turn.result _ c.take_turn.new.pass c.loop-left.invariant next (slice_get-get_or passes (left - 1) _ below)
    c.take_turn.ensures.pass c.take_turn.ensures.number c.take_turn.ensures.done c.take_turn.ensures.nearer c.take_turn.ensures.passed)

pub loop-left-preserved : goal.loop-left-preserved
loop-left-preserved g c =
    let left = c.loop-left.left in
    let passes = c.loop-left.passes in
    let some = c.loop-left-test.true in
    let few = c.loop-left.invariant.few in
    let below : left - 1 < length passes = omega arith in
    let next : left ≡ (left - 1) + 1 = omega arith in
    subst (λ goes. IsInRound c.args.table.now (HasPassed (g.G.Gate.passed c.args.gate.now)) c.args.passes.now (left - 1) (slice_set passes (left - 1) c.take_turn.new.pass) (goes || c.loop-left.some_go_on)) c.if-take_turn.false
    (round_on c.args.table.now (HasPassed (g.G.Gate.passed c.args.gate.now)) c.args.passes.now left (left - 1) passes c.loop-left.some_go_on c.take_turn.result _ c.take_turn.new.pass c.loop-left.invariant next (slice_get-get_or passes (left - 1) _ below)
    c.take_turn.ensures.pass c.take_turn.ensures.number c.take_turn.ensures.done c.take_turn.ensures.nearer c.take_turn.ensures.passed)

pub returns-clause-done : goal.returns-clause-done
returns-clause-done g c stops =
    let none = c.loop-left-test.false in
    all_served c.args.table.now (HasPassed (g.G.Gate.passed c.args.gate.now)) c.args.passes.now c.loop-left.passes c.loop-left.left c.loop-left.some_go_on c.loop-left.invariant (omega arith) stops
