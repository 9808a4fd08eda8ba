use Rattle.std.proofs.Common.{◌≡◌, length}
use Rattle.lxr_actor.specs.Run.{core_of}
use Rattle.lxr_core.specs.Actors.{mutators_in}
use Rattle.lxr_run_replay.specs.Replaying.{unfinished}
use Rattle.lxr_run_replay.proofs.GateLemmas.{AreLetPass}
use Rattle.lxr_run_replay.proofs.PickLemmas.{draws_left}
use Rattle.lxr_run_replay.proofs.RecordLemmas.{IsRecording}
use Rattle.lxr_run_replay.proofs.replaying.draw_steps.Given as goal

abbrev pub invariant-loop-numbers : goal.invariant-loop-numbers
invariant-loop-numbers g l = record {
  recording : IsRecording l.tracing l.fn.x (core_of l.fn.words l.fn.actors) l.fn.calls l.x (core_of l.words l.actors) l.calls;
  numbers : l.numbers ≡ unfinished l.tracing l.actors;
  mutators : l.mutators ≡ length (mutators_in l.actors);
  let_pass : AreLetPass (g.G.Gate.passed l.gate) (mutators_in l.fn.actors) (mutators_in l.actors);
}

abbrev pub decreases-loop-numbers : goal.decreases-loop-numbers
decreases-loop-numbers g l = draws_left (mutators_in l.actors) l.x
