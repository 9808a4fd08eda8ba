use Rattle.std.proofs.Common.{◌≡◌, ◌≤◌, length, take}
use Rattle.lxr_run_replay.specs.Replaying.{unfinished}
use Rattle.lxr_run_replay.proofs.numbers.Unfinished.of.Given as goal

abbrev pub invariant-loop-number : goal.invariant-loop-number
invariant-loop-number l = record {
  are : l.unfinished ≡ unfinished l.tracing (take l.number l.fn.actors);
  few : length l.unfinished ≤ l.number;
}
