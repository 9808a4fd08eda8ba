-- An epoch that ran on threads: what it needs and what it leaves.
use Rattle.std.specs.Prelude.{◌≡◌, ℕ, ◌*◌, ◌<◌, ◌≤◌, Some, List, [], IsSome, length, slice_get}
use Rattle.lxr_actor.specs.declared.Event.{Event}
use Rattle.lxr_actor.specs.Run.{core_of, run}
use Rattle.lxr_image.specs.declared.space.Space.{Space}
use Rattle.lxr_decrement.specs.declared.phases.DecEnd.TheVariants as dec_end
use Rattle.lxr_trace.specs.declared.phases.TraceEnd.TheVariants as trace_end
use Rattle.lxr_decrement.specs.Decrementing.{DecrementerState}
use Rattle.lxr_trace.specs.Tracing.{TracerState}
use Rattle.lxr_core_invariant.specs.EpochStates.{Beginning, limits_of}
use Rattle.lxr_core.specs.declared.actors.AnyActor.{AnyActor}
use Rattle.lxr_core.specs.Actors.{any_machine, decrementers_in, mutators_in, tracers_in}
use Rattle.lxr_core.specs.Closing.{AreFinished, AreResting}
use Rattle.lxr_core.specs.Executions.{HoldsExecution}
use Rattle.lxr_core.specs.Opening.{Opens, execution_at}
use Rattle.lxr_shared.specs.Ends.{HaveEnds}
use Rattle.lxr_shared.specs.Sharing.{KeepsLinesAlways}
use Rattle.lxr_run_replay.specs.Replaying.{CanBeReplayed}
use Rattle.lxr_words.specs.declared.Options.{Options}

-- An epoch can run: whatever the schedule, each next step fits and what is known of lines stays; all actors rest, and each mutator that is finished already knows its end;
-- and behind the mutators stand as many decrementers as there are workers, and as many tracers.
pub record CanRun (options : Options) (space : Space) (actors : List AnyActor) : Type 0 where
  pub words : 0 < length space.words
  pub fits : CanBeReplayed (core_of space.words actors)
  pub lines : KeepsLinesAlways space.limits (core_of space.words actors)
  pub resting : AreResting actors
  pub ends : HaveEnds actors
  pub few : length actors ≤ 32
  pub workers : (1 ≤ options.workers) × (options.workers ≤ 8)
  pub decrementers : length (decrementers_in actors) ≡ options.workers
  pub tracers : length (tracers_in actors) ≡ options.workers

-- each helper has an end, so it has made a unit
pub record HelpersHaveEnds (actors : List AnyActor) : Type 0 where
  pub decrementers : (i : ℕ) (d : DecrementerState) → slice_get (decrementers_in actors) i ≡ Some d → IsSome d.end
  pub tracers : (i : ℕ) (d : TracerState) → slice_get (tracers_in actors) i ≡ Some d → IsSome d.end

-- No helper that found nothing is left with a place in its pocket: one that took an offer isn't finished before a further unit.
pub record OffersAreWorkedOn (actors : List AnyActor) : Type 0 where
  pub decrementers : (i : ℕ) (d : DecrementerState) → slice_get (decrementers_in actors) i ≡ Some d → d.end ≡ Some dec_end.Nothing → d.pocket.items ≡ []
  pub tracers : (i : ℕ) (d : TracerState) → slice_get (tracers_in actors) i ≡ Some d → d.end ≡ Some trace_end.Nothing → d.pocket.items ≡ []

-- It has run: words and actors are those of one schedule. All mutators are through with the epoch, all actors rest, each helper has made a
-- unit, and none that found nothing is left with a place in its pocket. Of the space only the words have changed.
pub record HasRun (space after : Space) (actors actors' : List AnyActor) : Type 0 where
  pub schedule : List Event
  pub run : core_of after.words actors' ≡ run any_machine (core_of space.words actors) schedule
  pub finished : AreFinished (mutators_in actors')
  pub resting : AreResting actors'
  pub ends : HelpersHaveEnds actors'
  pub offers : OffersAreWorkedOn actors'
  pub rest : after ≡ record space { words = after.words }

-- among so many passes, and not too many, are two helpers for each of one worker or more
pub record HaveHelpers (options : Options) (count : ℕ) : Type 0 where
  pub few : count ≤ 32
  pub workers : (1 ≤ options.workers) × (options.workers ≤ 8)
  pub helpers : 2 * options.workers ≤ count

-- ---- after the opening of an epoch

-- there are as many decrementers as the options have workers, and as many tracers, and not too many actors
pub record HaveWorkers (options : Options) (actors : List AnyActor) : Type 0 where
  pub few : length actors ≤ 32
  pub workers : (1 ≤ options.workers) × (options.workers ≤ 8)
  pub decrementers : length (decrementers_in actors) ≡ options.workers
  pub tracers : length (tracers_in actors) ≡ options.workers

-- where an epoch is opened in a space of these limits, and its invariant holds from there on, it can run; so it can be replayed
abbrev pub OpenedEpochsCanRun : Type 0
OpenedEpochsCanRun = (options : Options) (b : Beginning) (space opened : Space) (actors started : List AnyActor) → HaveWorkers options actors
    → space.limits ≡ limits_of b → Opens space opened actors started → HoldsExecution b (execution_at b opened started) → CanRun options opened started
