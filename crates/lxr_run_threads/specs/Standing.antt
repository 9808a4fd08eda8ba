-- Passes that threads take in turn: what holds of one between its turns, and what a turn makes of it.
use Rattle.std.specs.Prelude.{◌≡◌, ℕ, ◌+◌, ◌-◌, ◌<◌, ◌&&◌, ◌||◌, Bool, true, false, not, if◌then◌else◌, nat_le, Option, Some, None, List, length}
use Rattle.lxr_decrement.specs.declared.phases.DecEnd.TheVariants as dec_end
use Rattle.lxr_trace.specs.declared.phases.TraceEnd.TheVariants as trace_end
use Rattle.lxr_core.specs.declared.actors.AnyActor.{AnyActor}
use Rattle.lxr_core.specs.declared.actors.AnyActor.TheVariants as any
use Rattle.lxr_core.specs.Actors.{any_machine}
use Rattle.lxr_shared_passes.specs.Passing.{IsSamePass, Opened, Passing, Turned}
use Rattle.lxr_shared.specs.declared.turns.Turn.{Turn}
use Rattle.lxr_shared.specs.declared.turns.Turn.TheVariants as turn
use Rattle.lxr_shared.specs.Ends.{end_of, is_op_done}
use Rattle.lxr_run_replay.specs.Replaying.{CanBeReplayed}
use Rattle.lxr_run_threads.specs.declared.standing.Standing.{Standing}
use Rattle.lxr_run_threads.specs.Working.{HasServed, IsPassOf, is_finished, is_helper, work_of}

-- a pass that has made no turn
abbrev pub first : Passing AnyActor → Standing
first pass = record { pass = pass; turns = 0 }

-- ---- when a turn is the last

-- a unit ended with its operation done, or with work that a helper found
abbrev pub has_worked : Turn → Bool
has_worked (turn.Mutator how) = is_op_done (Some how)
has_worked (turn.Decrementer dec_end.Worked) = true
has_worked (turn.Decrementer dec_end.Nothing) = false
has_worked (turn.Tracer trace_end.Worked) = true
has_worked (turn.Tracer trace_end.Nothing) = false
has_worked (turn.Tracer trace_end.RememberFull) = true

-- and so did its last one
abbrev pub ended_with_work : Option Turn → Bool
ended_with_work None = false
ended_with_work (Some how) = has_worked how

-- After a unit the pass is through with the epoch where that ended neither with an operation done nor with work, and a helper's also where it has
-- made as many turns as it may.
abbrev pub is_through : ℕ → Standing → Bool
is_through most s = not (ended_with_work (end_of s.pass.actor)) || (is_helper s.pass.actor && nat_le most s.turns)

-- ---- turns

-- Between its turns it is a pass of this epoch, in which each next step fits, and a helper has made fewer turns than it may.
pub record IsStanding (table : Opened AnyActor) (most : ℕ) (s : Standing) : Type 0 where
  pub fits : CanBeReplayed table.opening
  pub pass : IsPassOf table s.pass
  pub turns : is_helper s.pass.actor ≡ true → s.turns < most

-- how much it has before it: its mutator's work, or its helper's turns
abbrev pub left_of : ℕ → Standing → ℕ
left_of most s = work_of s.pass.actor + (most - s.turns)

-- One turn: a unit of the same pass. `through` says whether it was the pass's last one in this epoch; a mutator that was finished before makes no unit in it.
pub record MakesTurn (table : Opened AnyActor) (most : ℕ) (s t : Standing) (through : Bool) : Type 0 where
  pub same : IsSamePass s.pass t.pass
  pub unit : (olds : List ℕ) × Turned any_machine s.pass olds t.pass
  pub counted : is_helper s.pass.actor ≡ true → t.turns ≡ s.turns + 1
  pub answer : through ≡ (is_finished s.pass.actor || is_through most t)
  pub pass : IsPassOf table t.pass
  pub served : through ≡ true → HasServed t.pass.actor
  pub nearer : through ≡ false → left_of most t < left_of most s

-- the operation that an actor's next unit begins, by its thread and its number; none of a mutator without a further unit, and of a helper
abbrev pub next_operation : AnyActor → Option (ℕ × ℕ)
next_operation (any.Mutator m) = if is_finished (any.Mutator m) then None else Some (m.thread, length m.replies.items)
next_operation (any.Decrementer d) = None
next_operation (any.Tracer d) = None

-- the gate has let it pass
abbrev pub IsLetTurn : (ℕ → ℕ → Type 0) → AnyActor → Type 0
IsLetTurn passed a = (thread number : ℕ) → next_operation a ≡ Some (thread, number) → passed thread number

-- one turn, of an actor whose operation was let pass
pub record MakesLetTurn (table : Opened AnyActor) (passed : ℕ → ℕ → Type 0) (most : ℕ) (s t : Standing) (through : Bool) : Type 0 where
  pub let_pass : IsLetTurn passed s.pass.actor
  pub turn : MakesTurn table most s t through
