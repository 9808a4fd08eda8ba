use Rattle.lxr_actor.specs.Run.{core_of}
use Rattle.lxr_run_replay.specs.Finishing.{IsFinishing, RestBefore}
use Rattle.lxr_run_replay.proofs.replaying.finish_units.Given as goal

abbrev pub invariant-loop-number : goal.invariant-loop-number
invariant-loop-number l = record {
  finishing : IsFinishing (core_of l.fn.words l.fn.actors) (core_of l.words l.actors);
  before : RestBefore l.number l.actors;
}
