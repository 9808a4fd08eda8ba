-- What the invariant of an epoch says of its schedules: each can be run, and behind one that ends at rest the epoch may be closed.
use Rattle.std.proofs.Common.{◌≡◌, Some, [], sym, ap, subst, ◌∙◌}
use Rattle.std.specs.Prelude.{slice_get}
use Rattle.lxr_actor.specs.declared.Core.{Core}
use Rattle.lxr_actor.specs.Run.{run}
use Rattle.lxr_image.specs.declared.space.Space.{Space}
use Rattle.lxr_core_invariant.specs.EpochStates.{Beginning}
use Rattle.lxr_core.specs.declared.actors.AnyActor.{AnyActor}
use Rattle.lxr_core.specs.Actors.{AreInOrder, any_machine, mutators_in}
use Rattle.lxr_core.specs.Executions.{Execution, HoldsExecution}
use Rattle.lxr_core.proofs.ExecutionLemmas.{epoch_invariant_holds}
use Rattle.lxr_run_replay.specs.Replaying.{CanBeReplayed, SchedulesMayClose}

-- the core of an execution of which the invariant holds can be replayed
pub can_be_replayed : (b : Beginning) (execution : Execution) → HoldsExecution b execution → CanBeReplayed execution.core
can_be_replayed b execution holds = record {
  fits = (epoch_invariant_holds b execution [] holds).fits;
  order = λ schedule.
      let on = epoch_invariant_holds b execution schedule holds in
      subst (λ (core : Core AnyActor). AreInOrder core.actors) on.core on.holds.1.order;
  mutators = λ schedule i m at.
      let on = epoch_invariant_holds b execution schedule holds in
      (on.holds.1.mutators i m (subst (λ (core : Core AnyActor). slice_get (mutators_in core.actors) i ≡ Some m) (sym on.core) at)).sound;
}

-- after a schedule the epoch may be closed
pub may_close : SchedulesMayClose
may_close b execution schedule before after actors actors' has =
    let on = epoch_invariant_holds b execution schedule has.holds in
    record {
      holds = on.holds;
      core = on.core ∙ (ap (λ (core : Core AnyActor). run any_machine core schedule) has.core ∙ sym has.gone_on);
      space_is = has.rest ∙ ap (λ (s : Space). record s { words = after.words }) has.space_is;
      resting = has.resting;
    }
