-- The opening of an epoch.
use Rattle.std.specs.Prelude.{◌≡◌, ℕ, ◌≤◌, false, List, length, map}
use Rattle.lxr_layout.specs.declared.TheConstants.{PAUSE_WORD}
use Rattle.lxr_image.specs.declared.space.Space.{Space}
use Rattle.lxr_image.specs.Spaces.{Turns, tables_of}
use Rattle.lxr_image.specs.Tables.{changed}
use Rattle.lxr_actor.specs.Run.{core_of}
use Rattle.lxr_model.specs.Belongs.{calls_since_pause, has_asked}
use Rattle.lxr_invariant.specs.AbstractState.{AbstractState}
use Rattle.lxr_invariant.specs.Listed.{IsListed}
use Rattle.lxr_invariant.specs.Quiescent.{IsQuiescent}
use Rattle.lxr_core_invariant.specs.EpochStates.{Beginning, IsBeginning, limits_of}
use Rattle.lxr_core.specs.declared.actors.AnyActor.{AnyActor}
use Rattle.lxr_core.specs.Actors.{tracers_in}
use Rattle.lxr_core.specs.Executions.{Execution}
use Rattle.lxr_core.specs.Filling.{FilledWhileTraced, unfilled}
use Rattle.lxr_core.specs.Resting.{ActorsRestAfter, FitSpace}
use Rattle.lxr_core.specs.Starting.{HaveStarted}

-- An epoch may be opened: the space is between epochs and listed, and the actors rest and fit it.
pub record MayOpen (g : AbstractState) (space : Space) (actors : List AnyActor) : Type 0 where
  pub between : IsQuiescent space g
  pub listed : IsListed space
  pub fit : FitSpace space.limits g.moment.state.graph actors

-- It is opened: the pause word is clear, each mutator has begun again with its 256 registers, and each helper with an empty
-- pocket and without an end; then, while a trace runs, tracers' pockets were filled. Nothing else of the space or of the actors has changed.
pub record Opens (before after : Space) (resting started : List AnyActor) : Type 0 where
  pub space : Turns before after (record (tables_of before) { cursors = changed (tables_of before).cursors PAUSE_WORD 0 })
  pub actors : HaveStarted before.registers.items resting (map unfilled started) (length resting)
  pub pockets : FilledWhileTraced before.trace (tables_of before) before.limits.blocks (tracers_in started)

-- A history so far led to the space and the actors: the actors rest for it, since its last pause nobody has asked for one, and each thread has
-- had one call at most.
pub record Begins (b : Beginning) (space : Space) (actors : List AnyActor) : Type 0 where
  pub space_is : b.space ≡ space
  pub begins : IsBeginning b
  pub actors_rest : ActorsRestAfter (limits_of b) b.every b.history actors
  pub few : (t : ℕ) → calls_since_pause t b.history ≤ 1
  pub unasked : (t : ℕ) → has_asked t b.history ≡ false

-- the execution that begins with a space and actors
abbrev pub execution_at : Beginning → Space → List AnyActor → Execution
execution_at b space actors = record { core = core_of space.words actors; history = b.history; at = b.abstract_state.at }
