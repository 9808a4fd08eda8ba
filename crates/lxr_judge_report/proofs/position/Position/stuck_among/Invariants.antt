use Rattle.std.proofs.Common.{◌≡◌, take}
use Rattle.std.specs.Prelude.{filter}
use Rattle.lxr_judge_sets.specs.ByName.{value_at}
use Rattle.lxr_judge_report.specs.Stages.{becomes_stuck_by}
use Rattle.lxr_judge_report.proofs.position.Position.stuck_among.Given as goal

abbrev pub invariant-loop-name : goal.invariant-loop-name
invariant-loop-name l = l.stuck.items ≡ filter (becomes_stuck_by l.self l.promoted (value_at l.raised)) (take l.name-index l.names)
