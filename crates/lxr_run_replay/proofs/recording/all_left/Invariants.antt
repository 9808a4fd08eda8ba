use Rattle.std.proofs.Common.{◌≡◌, ◌+◌, ◌*◌, ◌≤◌, take}
use Rattle.lxr_alloc.specs.declared.TheConstants.{MOST_OPERATIONS}
use Rattle.lxr_run_replay.specs.Recording.{all_left}
use Rattle.lxr_run_replay.proofs.recording.all_left.Given as goal

abbrev pub invariant-loop-number : goal.invariant-loop-number
invariant-loop-number l = record {
  left : l.count ≡ all_left (take l.number l.actors);
  few : l.count ≤ (MOST_OPERATIONS + 1) * l.number;
}
