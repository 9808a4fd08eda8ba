use Rattle.std.proofs.Common.{◌≡◌, length, take}
use Rattle.lxr_core.specs.Actors.{mutators_in}
use Rattle.lxr_run_replay.proofs.replaying.mutators_among.Given as goal

abbrev pub invariant-loop-number : goal.invariant-loop-number
invariant-loop-number l = l.count ≡ length (mutators_in (take l.number l.actors))
