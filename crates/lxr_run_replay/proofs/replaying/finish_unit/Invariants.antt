use Rattle.std.specs.Prelude.{slice_get}
use Rattle.lxr_actor.specs.Run.{core_of}
use Rattle.lxr_run_replay.specs.Finishing.{IsFinishing, RestBefore}
use Rattle.lxr_run_replay.proofs.FinishLemmas.{left_to_go}
use Rattle.lxr_run_replay.proofs.replaying.finish_unit.Given as goal

abbrev pub invariant-loop-words : goal.invariant-loop-words
invariant-loop-words l = record {
  finishing : IsFinishing (core_of l.fn.words l.fn.actors) (core_of l.words l.actors);
  before : RestBefore l.fn.number l.actors;
}

abbrev pub decreases-loop-words : goal.decreases-loop-words
decreases-loop-words l = left_to_go (slice_get l.actors l.fn.number)
