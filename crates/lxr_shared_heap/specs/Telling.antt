-- What a mutator shows, told in a history: what its thread called, and what was replied.
use Rattle.std.specs.Prelude.{◌≡◌, ℕ, ◌+◌, Bool, Option, Some, None, List, [], ◌∷◌, nat_eq, if◌then◌else◌, length, slice_get, take}
use Rattle.lxr_graph.specs.declared.Op.{Op}
use Rattle.lxr_graph.specs.declared.Reply.{Reply}
use Rattle.lxr_graph.specs.History.{Item, Call, Pause, Renew, calls_of, replies_of}
use Rattle.lxr_model.specs.Belongs.{IsHistorySoFar, Script}
use Rattle.lxr_model_laws.specs.ScriptLaws.{GoesOn}
use Rattle.lxr_mutator.specs.Mutating.{Mutating, newest_of, reply_in}
use Rattle.lxr_mutator.specs.Mutators.{IsThrough}
use Rattle.lxr_mutator.specs.Naming.{all_told_as, told_as}
use Rattle.lxr_core_invariant.specs.ThreadStates.{all_of}
use Rattle.lxr_core_invariant.specs.EpochStates.{Extends, IsStepCall}
use Rattle.lxr_core.specs.declared.actors.AnyActor.{AnyActor}
use Rattle.lxr_core.specs.declared.actors.AnyActor.TheVariants as any
use Rattle.lxr_rounds_invariant.specs.LoopInvariant.{terms_of}
use Rattle.lxr_shared_heap.specs.declared.settings.Settings.{Settings}
use Rattle.lxr_shared_heap.specs.Settings.{run_of}

-- The mutator of this thread has done a beginning of what it was asked for, each operation once and in order, and its replies are those of the
-- history, told with names or without. It and the history count from when names were last renewed.
pub record HasReplied (t : ℕ) (h : List Item) (m : Mutating) : Type 0 where
  pub calls : calls_of t h ≡ take (length m.replies.items) (all_of m.operations)
  pub replies : all_told_as m.names (replies_of t h) ≡ m.replies.items
  -- where its thread has ended, all operations and the end have replies
  pub ended : IsThrough m → length m.replies.items ≡ length m.operations + 1

-- so has each of these, the first of thread 1
abbrev pub HaveReplied : List Item → List Mutating → Type 0
HaveReplied h mutators = (i : ℕ) (m : Mutating) → slice_get mutators i ≡ Some m → HasReplied (i + 1) h m

-- the newest reply of a thread in a history, be it from before names were last renewed
abbrev pub newest_reply : ℕ → List Item → Option Reply
newest_reply t [] = None
newest_reply t (Renew ns ∷ h) = newest_reply t h
newest_reply t (Pause report ∷ h) = newest_reply t h
newest_reply t (Call u o r ∷ h) = if nat_eq t u then Some r else newest_reply t h

-- this reply is the newest of a thread in a history, as it is told with names or without
abbrev pub TellsNewest : Bool → ℕ → List Item → Reply → Type 0
TellsNewest names t h r = (replied : Reply) × (newest_reply t h ≡ Some replied) × (told_as names replied ≡ r)

-- the reply by which the last unit of this thread's mutator ended, where it ended with one, is the thread's newest
abbrev pub EndsByNewest : ℕ → List Item → Mutating → Type 0
EndsByNewest t h m = (r : Reply) → reply_in m.end ≡ Some r → TellsNewest m.names t h r

-- so is that of each of these, the first of thread 1
abbrev pub EndByNewest : List Item → List Mutating → Type 0
EndByNewest h mutators = (i : ℕ) (m : Mutating) → slice_get mutators i ≡ Some m → EndsByNewest (i + 1) h m

-- What the mutator of this number shows is so in this history: it goes on from h, by calls alone, each with the reply of the model's step, and it is
-- legal and belongs to a script that goes on from this one. Of that script the mutator's operations are its thread's.
pub record TellsHistory (settings : Settings) (script : Script) (h history : List Item) (number : ℕ) (m : Mutating) : Type 0 where
  pub script' : Script
  pub goes_on : GoesOn script script'
  pub extends : Extends (length script) settings.every h history
  pub belongs : IsHistorySoFar (terms_of (run_of settings script')) script' history
  pub asked : slice_get script' number ≡ Some m.operations
  -- it tells names as the settings say
  pub names : m.names ≡ settings.names
  pub replied : HasReplied (number + 1) history m
  -- its newest reply, if it shows one, is the thread's, also where that is from before names were renewed
  pub newest : (r : Reply) → newest_of m ≡ Some r → TellsNewest m.names (number + 1) history r
  -- it shows none only where it has replied nothing since names were last renewed
  pub silent : newest_of m ≡ None → m.replies.items ≡ []

-- In a history that goes on from h by calls alone this is the newest call of its thread, and its reply is that of the model's step at its place.
pub record IsNewestCall (threads every : ℕ) (h : List Item) (t : ℕ) (o : Op) (r : Reply) (history : List Item) : Type 0 where
  pub before : List Item
  pub extends : Extends threads every h before
  pub step : IsStepCall threads every before t o r
  pub behind : Extends threads every (Call t o r ∷ before) history
  pub newest : calls_of t history ≡ calls_of t (Call t o r ∷ before)

-- What the station of this number has answered is so in this history: there the operation is the newest call of its thread, with a reply that is told
-- so, with names or without.
pub record TellsAnswer (settings : Settings) (script : Script) (h history : List Item) (number : ℕ) (o : Op) (r : Reply) (a : AnyActor) : Type 0 where
  pub mutator : Mutating
  pub is : a ≡ any.Mutator mutator
  pub tells : TellsHistory settings script h history number mutator
  pub replied : Reply
  pub told : told_as mutator.names replied ≡ r
  pub newest : IsNewestCall (length script) settings.every h (number + 1) o replied history
