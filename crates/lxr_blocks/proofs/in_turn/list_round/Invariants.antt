use Rattle.std.proofs.Common.{◌≡◌, ◌-◌, ◌*◌, ◌≤◌, length}
use Rattle.lxr_image.specs.Runs.{with_runs}
use Rattle.lxr_image.specs.Spaces.{IsSpace, Turns, tables_of}
use Rattle.lxr_blocks.specs.InTurn.{runs_from}
use Rattle.lxr_blocks.proofs.in_turn.list_round.Given as goal

abbrev pub invariant-loop-passed : goal.invariant-loop-passed
invariant-loop-passed l = record {
  space : IsSpace l.space;
  turns : Turns l.initial.space l.space (with_runs (tables_of l.initial.space) 0 (runs_from (tables_of l.initial.space) l.initial.space.limits.blocks l.from l.passed));
  runs : l.runs ≡ length (runs_from (tables_of l.initial.space) l.initial.space.limits.blocks l.from l.passed);
  room : l.runs ≤ 64 * l.passed;
  few : l.runs ≤ l.most;
  within : l.passed ≤ l.initial.space.limits.blocks;
}

abbrev pub decreases-loop-passed : goal.decreases-loop-passed
decreases-loop-passed l = l.initial.space.limits.blocks - l.passed
