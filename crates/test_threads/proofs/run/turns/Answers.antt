use Rattle.std.proofs.Common.{◌∙◌}
use Rattle.test_threads.proofs.Served.{turn-serves}
use Rattle.test_threads.proofs.run.turns.Goals as goal

pub loop-round-preserved : goal.loop-round-preserved
loop-round-preserved g c =
    let same = c.turn.ensures.pass in
    let before = c.loop-round.invariant.0 in
    let unit = c.turn.ensures.unit in (
      record { epoch = same.epoch ∙ before.epoch; opening = same.opening ∙ before.opening; number = same.number ∙ before.number },
      turn-serves g.A.Actor.machine unit.0 c.loop-round.pass c.turn.new.self c.loop-round._round unit.2 c.loop-round.invariant.1,
    )
