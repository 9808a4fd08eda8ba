-- The closing of an epoch.
use Rattle.std.specs.Prelude.{◌≡◌, ◌≢◌, ℕ, ◌<◌, ◌⊎◌, false, true, Some, List, IsTrue, length, map, slice_get}
use Rattle.std.specs.List.{list_any}
use Rattle.lxr_layout.specs.declared.TheConstants.{PAUSE_WORD, REMEMBERED_CURSOR}
use Rattle.lxr_layout.specs.declared.Name.{Name}
use Rattle.lxr_graph.specs.Names.{has}
use Rattle.lxr_image.specs.declared.space.Space.{Space}
use Rattle.lxr_image.specs.Spaces.{tables_of}
use Rattle.lxr_blocks.specs.States.{KeepsState}
use Rattle.lxr_model.specs.Belongs.{HasCause, has_asked}
use Rattle.lxr_model.specs.Kinds.{collect_called}
use Rattle.lxr_model.specs.Legal.{IsLegalSoFar}
use Rattle.lxr_model.specs.Moments.{moment}
use Rattle.lxr_model.specs.Terms.{Terms}
use Rattle.lxr_actor.specs.Run.{core_of}
use Rattle.lxr_invariant.specs.AbstractState.{AbstractState, members}
use Rattle.lxr_invariant.specs.Lines.{NoneChosen}
use Rattle.lxr_invariant.specs.Listed.{FreeBlocksAreListed}
use Rattle.lxr_invariant.specs.Quiescent.{IsAtSafepoint}
use Rattle.lxr_mutator.specs.declared.phases.MutEnd.TheVariants as ends
use Rattle.lxr_mutator.specs.declared.phases.MutatorPhase.TheVariants as phase
use Rattle.lxr_mutator.specs.Mutating.{IsWaiting, Mutating, has_collected}
use Rattle.lxr_mutator.specs.Mutators.{IsThrough}
use Rattle.lxr_core_invariant.specs.EpochStates.{Beginning, Extends, limits_of}
use Rattle.lxr_core_close.specs.HandingOut.{AreHandedOut, IsDrawn}
use Rattle.lxr_core_close.specs.Safepoint.{WasFree}
use Rattle.lxr_core_close.specs.Cause.{AreTermsOf}
use Rattle.lxr_core_sim_mutator.specs.Showing.{IsNew}
use Rattle.lxr_core.specs.declared.actors.AnyActor.{AnyActor}
use Rattle.lxr_core.specs.Actors.{any_machine, mutators_in, script_of}
use Rattle.lxr_core.specs.Collecting.{actor_given_up, all_entries, all_registers, tally_with}
use Rattle.lxr_core.specs.Executions.{HoldsExecution, Execution}
use Rattle.lxr_core.specs.Resting.{ActorsRestAfter}

-- all actors rest
abbrev pub AreResting : List AnyActor → Type 0
AreResting actors = (i : ℕ) (a : AnyActor) → slice_get actors i ≡ Some a → any_machine.rests a ≡ true

-- all mutators are through with the epoch
abbrev pub AreFinished : List Mutating → Type 0
AreFinished mutators = (i : ℕ) (m : Mutating) → slice_get mutators i ≡ Some m → m.phase ≡ phase.Finished

-- An epoch may be closed: the words and the actors are those that some schedule has led to, be it one of no steps, and all
-- actors rest.
pub record MayClose (b : Beginning) (execution : Execution) (space : Space) (actors : List AnyActor) : Type 0 where
  pub holds : HoldsExecution b execution
  pub core : execution.core ≡ core_of space.words actors
  pub space_is : space ≡ record b.space { words = space.words }
  pub resting : AreResting actors

-- ---- when a pause is wanted

-- a mutator is through with the epoch for another reason than its end: it lacks room, saw that a pause is asked for, or had its turn
abbrev pub IsHeldUp : Mutating → Type 0
IsHeldUp m = (m.phase ≡ phase.Finished) × (m.end ≢ Some ends.Ended)

-- A pause is wanted: the pause word of the space is set, or some mutator is through for another reason than its end, or all have done their
-- end. So others may rest with nothing to do.
abbrev pub IsPauseWanted : Space → List Mutating → Type 0
IsPauseWanted space mutators =
    ((tables_of space).cursors PAUSE_WORD ≡ 1)
    ⊎ ((i : ℕ) × (m : Mutating) × (slice_get mutators i ≡ Some m) × IsHeldUp m)
    ⊎ ((i : ℕ) (m : Mutating) → slice_get mutators i ≡ Some m → IsThrough m)

-- ---- what closing does

-- what the space stands for once an epoch is closed
abbrev pub closed_state : Beginning → Execution → AbstractState
closed_state b execution = record b.abstract_state { moment = moment (limits_of b).threads execution.history; at = execution.at }

-- an epoch has done something: the history is longer, or a `new` waits, or all threads have ended
abbrev pub HasProgress : Beginning → Execution → List Mutating → Type 0
HasProgress b execution mutators =
    (length b.history < length execution.history)
    ⊎ ((i : ℕ) × (m : Mutating) × (slice_get mutators i ≡ Some m) × IsWaiting m)
    ⊎ ((i : ℕ) (m : Mutating) → slice_get mutators i ≡ Some m → IsThrough m)

-- The epoch is closed.
pub record Closes (b : Beginning) (execution : Execution) (before after : Space) (actors : List AnyActor) : Type 0 where
  -- the space is at a safepoint before a pause for what the history has led to
  pub safepoint : IsAtSafepoint after (closed_state b execution)
  -- the lines that were drawn are handed out, each once, and no others; all other tables are as they were
  pub hands_out : AreHandedOut (IsDrawn b.space before) (tables_of before) (tables_of after)
  -- these lines were free as the epoch opened, so that no object that stood in the heap then overlaps one of them
  pub free : (line : ℕ) → IsDrawn b.space before line → WasFree b line
  -- the history goes on by calls
  pub extends : Extends (limits_of b).threads b.every b.history execution.history
  -- what stood in the heap as the epoch opened stands where it did
  pub unmoved : (n : Name) → IsTrue (has (members b.abstract_state.moment) n) → execution.at n ≡ b.abstract_state.at n
  -- the actors have given up what they had; they rest for the history, and what waits is a `new`
  pub gave : actors ≡ map actor_given_up execution.core.actors
  pub actors_rest : ActorsRestAfter (limits_of b) b.every execution.history actors
  pub news : (i : ℕ) (m : Mutating) → slice_get (mutators_in actors) i ≡ Some m → IsWaiting m → IsNew m
  -- where all are through, and all free blocks were listed as the epoch opened, a pause has a cause
  pub cause : AreFinished (mutators_in execution.core.actors) → FreeBlocksAreListed b.space → (terms : Terms) → AreTermsOf b terms → IsLegalSoFar terms b.history → HasCause terms (script_of (mutators_in actors)) execution.history
  -- where all are through, and nobody had asked for a pause before, the epoch has done something
  pub progress : AreFinished (mutators_in execution.core.actors) → ((t : ℕ) → has_asked t b.history ≡ false) → HasProgress b execution (mutators_in actors)
  -- where nobody had called `collect` before, the mutators tell whether somebody has
  pub collects : collect_called b.history ≡ false → collect_called execution.history ≡ list_any has_collected (mutators_in actors)
  -- each block has the state that it had as the epoch opened, or neither that one nor its own is Chosen or World
  pub states : (n : ℕ) → KeepsState (tables_of b.space) (tables_of after) n
  -- where no block was Chosen then, no number of the remembered set was drawn
  pub remembered : NoneChosen (tables_of b.space) b.space.limits.blocks → (tables_of after).cursors REMEMBERED_CURSOR ≡ (tables_of b.space).cursors REMEMBERED_CURSOR
  -- the space has the registers and the entries of all mutators, those of thread 1 first
  pub registers : after.registers.items ≡ all_registers (mutators_in execution.core.actors)
  pub logged : after.logged.items ≡ all_entries (mutators_in execution.core.actors)
  -- of the space, words, registers, entries and the tally of operations alone have changed
  pub tally : after.tally ≡ tally_with before.tally (mutators_in actors)
  pub rest : after ≡ record before {
    words = after.words;
    registers = after.registers;
    logged = after.logged;
    tally = after.tally;
  }

-- What `Closes` says of epochs that all mutators are through with, for each epoch at whose end a pause is wanted: where all free blocks were
-- listed as the epoch opened, the pause has a cause; where nobody had asked for a pause before, the epoch has done something.
pub record IsPauseExplained (b : Beginning) (execution : Execution) (actors : List AnyActor) : Type 0 where
  pub cause : FreeBlocksAreListed b.space → (terms : Terms) → AreTermsOf b terms → IsLegalSoFar terms b.history → HasCause terms (script_of (mutators_in actors)) execution.history
  pub progress : ((t : ℕ) → has_asked t b.history ≡ false) → HasProgress b execution (mutators_in actors)
