-- What workers do with their passes.
use Rattle.std.specs.Prelude.{◌≡◌, ℕ, Bool, true, false, Option, None, Some, List, [], All, IsSome, is_none, is_some, slice_get}
use Rattle.std.specs.List.{sum_by}
use Rattle.lxr_layout.specs.declared.Place.{Place}
use Rattle.lxr_decrement.specs.declared.phases.DecEnd.TheVariants as dec_end
use Rattle.lxr_trace.specs.declared.phases.TraceEnd.TheVariants as trace_end
use Rattle.lxr_mutator.specs.Mutating.{Mutating}
use Rattle.lxr_core.specs.declared.actors.AnyActor.{AnyActor}
use Rattle.lxr_core.specs.declared.actors.AnyActor.TheVariants as any
use Rattle.lxr_core.specs.Actors.{any_machine}
use Rattle.lxr_shared_passes.specs.Passing.{Opened, Passing}
use Rattle.lxr_shared.specs.Sharing.{Sharing}
use Rattle.lxr_sights.specs.Gates.{IsLetPassSince}
use Rattle.lxr_run_replay.specs.Working.{work}
use Rattle.lxr_run_threads.specs.Dealing.{numbers_of}

-- the table of an epoch
abbrev pub table_of : Sharing → Opened AnyActor
table_of epoch = record { id = epoch.id; opening = epoch.opening }

-- the pass is one of the epoch of this table, and its actor rests
pub record IsPassOf (table : Opened AnyActor) (pass : Passing AnyActor) : Type 0 where
  pub epoch_is : pass.epoch ≡ table.id
  pub opening_is : pass.opening ≡ table.opening
  pub rests : any_machine.rests pass.actor ≡ true

-- Where the actor of a pass is a mutator, it has gained replies since the epoch was opened to operations alone that the gate let pass.
abbrev pub HasPassed : (ℕ → ℕ → Type 0) → Passing AnyActor → Type 0
HasPassed passed pass = (m : Mutating) → slice_get pass.opening.actors pass.number ≡ Some (any.Mutator m)
    → (n : Mutating) × (pass.actor ≡ any.Mutator n) × IsLetPassSince passed m n

-- its mutator has a further unit before it in this epoch; helpers don't count
abbrev pub goes_on : AnyActor → Bool
goes_on (any.Mutator m) = is_some (any_machine.action (any.Mutator m))
goes_on (any.Decrementer d) = false
goes_on (any.Tracer d) = false

-- it is a mutator that has none
abbrev pub is_finished : AnyActor → Bool
is_finished (any.Mutator m) = is_none (any_machine.action (any.Mutator m))
is_finished (any.Decrementer d) = false
is_finished (any.Tracer d) = false

-- it is a decrementer or a tracer
abbrev pub is_helper : AnyActor → Bool
is_helper (any.Mutator m) = false
is_helper (any.Decrementer d) = true
is_helper (any.Tracer d) = true

-- A helper has made a unit, and if the last one found nothing, there is no place in its pocket: each one that it was offered was looked at.
pub record HasHelped {End : Type 0} (nothing : End) (end : Option End) (pocket : List Place) : Type 0 where
  pub some : IsSome end
  pub worked : end ≡ Some nothing → pocket ≡ []

-- a mutator has come to its end for this epoch, and a helper has made a unit and looked at what it was offered, if it found nothing else
abbrev pub HasServed : AnyActor → Type 0
HasServed (any.Mutator m) = any_machine.action (any.Mutator m) ≡ None
HasServed (any.Decrementer d) = HasHelped dec_end.Nothing d.end d.pocket.items
HasServed (any.Tracer d) = HasHelped trace_end.Nothing d.end d.pocket.items

-- the work that an actor has before it in this epoch, and that of all; helpers don't count
abbrev pub work_of : AnyActor → ℕ
work_of (any.Mutator m) = work m
work_of (any.Decrementer d) = 0
work_of (any.Tracer d) = 0

abbrev pub work_in : List (Passing AnyActor) → ℕ
work_in passes = sum_by (λ p. work_of p.actor) passes

-- and its actor has served
abbrev pub IsDoneOf : Opened AnyActor → Passing AnyActor → Type 0
IsDoneOf table pass = IsPassOf table pass × HasServed pass.actor

-- Passes have worked: each is done and has the number that it had, and mutators have gained replies to operations alone that were let pass.
pub record HaveWorked (table : Opened AnyActor) (passed : ℕ → ℕ → Type 0) (before after : List (Passing AnyActor)) : Type 0 where
  pub done : All (IsDoneOf table) after
  pub numbers : numbers_of after ≡ numbers_of before
  pub passed_on : All (HasPassed passed) before → All (HasPassed passed) after
