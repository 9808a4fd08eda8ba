-- A store with a log of its own, as an actor on shared words.
use Rattle.std.specs.Prelude.{ℕ, ◌<◌, Bool, true, false, None, length}
use Rattle.lxr_layout.specs.declared.runs.LogEntry.{LogEntry}
use Rattle.lxr_base.specs.Roomy.{Roomy}
use Rattle.lxr_actor.specs.Machine.{Machine}
use Rattle.lxr_barrier.specs.declared.machines.StorePhase.{StorePhase}
use Rattle.lxr_barrier.specs.declared.machines.StorePhase.TheVariants.{Begun, Unlogged, Loaded, Logged, Ended}
use Rattle.lxr_barrier.specs.Storing.{Storing, next_action, store_after, log_after}

-- a store, and the log that it records in
pub record Logging : Type 0 where
  pub store : Storing
  pub log : Roomy LogEntry

-- between the look at the bit and its clearing there is room for the entry
abbrev pub HasRoomIn : StorePhase → Roomy LogEntry → Type 0
HasRoomIn Begun log = Unit {0}
HasRoomIn Unlogged log = length log.items < log.room
HasRoomIn (Loaded old) log = length log.items < log.room
HasRoomIn Logged log = Unit {0}
HasRoomIn (Ended how) log = Unit {0}

-- its one unit is the store: it rests before and after
abbrev pub rests_in : StorePhase → Bool
rests_in Begun = true
rests_in Unlogged = false
rests_in (Loaded old) = false
rests_in Logged = false
rests_in (Ended how) = true

-- the most steps that are left
abbrev pub steps_left : StorePhase → ℕ
steps_left Begun = 4
steps_left Unlogged = 3
steps_left (Loaded old) = 2
steps_left Logged = 1
steps_left (Ended how) = 0

-- both, once the store is told what its word was
abbrev pub storer_after : Logging → ℕ → Logging
storer_after s old = record { store = store_after s.store s.log old; log = log_after s.store s.log old }

-- what a storer means: it takes no offers
abbrev pub storer_machine : Machine Logging
storer_machine = record {
  action = λ s. next_action s.store;
  after = storer_after;
  rests = λ s. rests_in s.store.phase;
  left = λ s. steps_left s.store.phase;
  offered = λ s place. (s, false);
  spared = λ s. (s, None);
  ordered = λ s o. (s, false);
}
