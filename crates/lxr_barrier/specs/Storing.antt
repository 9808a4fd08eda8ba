-- One store of a reference behind the barrier: what its machine knows, and its single steps.
use Rattle.std.specs.Prelude.{ℕ, ◌+◌, ◌/◌, ◌%◌, Bool, true, false, nat_le, if◌then◌else◌, Option, Some, None, length}
use Rattle.lxr_tables.specs.Entries.{all_but, is_set}
use Rattle.lxr_layout.specs.Places.{field_word, place_in}
use Rattle.lxr_layout.specs.declared.Place.{Place}
use Rattle.lxr_layout.specs.declared.limits.Regions.{Regions}
use Rattle.lxr_layout.specs.declared.runs.LogEntry.{LogEntry}
use Rattle.lxr_base.specs.Roomy.{Roomy, pushed}
use Rattle.lxr_actor.specs.declared.Action.{Action}
use Rattle.lxr_actor.specs.declared.Kindred.{Kindred}
use Rattle.lxr_actor.specs.declared.Kindred.TheVariants as kind
use Rattle.lxr_barrier.specs.declared.machines.LastStep.{LastStep}
use Rattle.lxr_barrier.specs.declared.machines.LastStep.TheVariants as last_step
use Rattle.lxr_barrier.specs.declared.machines.StorePhase.{StorePhase}
use Rattle.lxr_barrier.specs.declared.machines.StorePhase.TheVariants.{Begun, Unlogged, Loaded, Logged, Ended}
use Rattle.lxr_barrier.specs.declared.machines.StoreEnd.{StoreEnd}
use Rattle.lxr_barrier.specs.declared.machines.StoreEnd.TheVariants.{Stored, Swapped, LogFull}

-- the heap word of a reference: references stand behind their object's header
abbrev pub reference_word : Place → ℕ → ℕ
reference_word place index = field_word place.0 index

-- a store of a reference: where the unlogged bits begin, the object and which of its references, what is stored,
-- what its last step does, and how far it is
pub record Storing : Type 0 where
  pub unlogged : ℕ
  pub place : Place
  pub index : ℕ
  pub value : Place
  pub last : LastStep
  pub phase : StorePhase

-- the store that has taken no step
abbrev pub begun : Regions → Place → ℕ → Place → Storing
begun r place index value = record { unlogged = r.unlogged; place = place; index = index; value = value; last = last_step.Store; phase = Begun }

-- the same, but its last step swaps
abbrev pub begun_swap : Regions → Place → ℕ → Place → Storing
begun_swap r place index value = record (begun r place index value) { last = last_step.Swap }

-- the word that is stored to
abbrev pub target : Storing → ℕ
target s = reference_word s.place s.index

-- the word with its unlogged bit
abbrev pub bit_word : Storing → ℕ
bit_word s = s.unlogged + target s / 64

-- which of the 64 bits of that word it is
abbrev pub bit_number : Storing → ℕ
bit_number s = target s % 64

-- the log has no room for a further entry
abbrev pub is_full : Roomy LogEntry → Bool
is_full log = nat_le log.room (length log.items)

-- it has seen its bit clear, or has cleared it
abbrev pub IsPastBarrier : StorePhase → Type 0
IsPastBarrier Begun = ⊥
IsPastBarrier Unlogged = ⊥
IsPastBarrier (Loaded old) = ⊥
IsPastBarrier Logged = Unit {0}
IsPastBarrier (Ended Stored) = Unit {0}
IsPastBarrier (Ended (Swapped old)) = Unit {0}
IsPastBarrier (Ended LogFull) = ⊥

-- the kind of its last step
abbrev pub last_kind : LastStep → Kindred
last_kind last_step.Store = kind.Store
last_kind last_step.Swap = kind.Swap

-- the next step: look at the bit; load the reference; clear the bit; store or swap
abbrev pub action_in : Storing → StorePhase → Option Action
action_in s Begun = Some (record { kind = kind.Load; word = bit_word s; operand = 0 })
action_in s Unlogged = Some (record { kind = kind.Load; word = target s; operand = 0 })
action_in s (Loaded old) = Some (record { kind = kind.And; word = bit_word s; operand = all_but (bit_number s) })
action_in s Logged = Some (record { kind = last_kind s.last; word = target s; operand = s.value.0 })
action_in s (Ended how) = None

-- its next action, if it is not through
abbrev pub next_action : Storing → Option Action
next_action s = action_in s s.phase

-- how it ends with its last step, which found this word: a swap keeps the reference that was there
abbrev pub last_end : LastStep → ℕ → StoreEnd
last_end last_step.Store old = Stored
last_end last_step.Swap old = Swapped (place_in old)

-- how far it is once it is told what the word was: a clear bit leaves the store alone to be done, and a set one
-- needs room in the log
abbrev pub phase_after : Storing → Roomy LogEntry → ℕ → StorePhase → StorePhase
phase_after s log old Begun = if is_set old (bit_number s) then (if is_full log then Ended LogFull else Unlogged) else Logged
phase_after s log old Unlogged = Loaded (place_in old)
phase_after s log old (Loaded first) = Logged
phase_after s log old Logged = Ended (last_end s.last old)
phase_after s log old (Ended how) = Ended how

-- the store once it is told what the word was
abbrev pub store_after : Storing → Roomy LogEntry → ℕ → Storing
store_after s log old = record s { phase = phase_after s log old s.phase }

-- the entry of its reference, with what it loaded there
abbrev pub entry_of : Storing → Place → LogEntry
entry_of s old = record { place = s.place; index = s.index; old = old }

-- the log then: who clears the bit records what it loaded, and who finds it cleared records nothing
abbrev pub log_in : Storing → Roomy LogEntry → ℕ → StorePhase → Roomy LogEntry
log_in s log old Begun = log
log_in s log old Unlogged = log
log_in s log old (Loaded first) = if is_set old (bit_number s) then pushed log (entry_of s first) else log
log_in s log old Logged = log
log_in s log old (Ended how) = log

-- the log then: it has one entry more where a set bit was cleared
abbrev pub log_after : Storing → Roomy LogEntry → ℕ → Roomy LogEntry
log_after s log old = log_in s log old s.phase

-- how it ended, once it is through
abbrev pub end_in : StorePhase → Option StoreEnd
end_in Begun = None
end_in Unlogged = None
end_in (Loaded old) = None
end_in Logged = None
end_in (Ended how) = Some how

-- how it ended, if it is through
abbrev pub end_of : Storing → Option StoreEnd
end_of s = end_in s.phase

-- the reference that its swap found, once that is made
abbrev pub old_in : StorePhase → Option Place
old_in Begun = None
old_in Unlogged = None
old_in (Loaded old) = None
old_in Logged = None
old_in (Ended Stored) = None
old_in (Ended (Swapped old)) = Some old
old_in (Ended LogFull) = None

-- the reference that its swap found, if that is made
abbrev pub old_of : Storing → Option Place
old_of s = old_in s.phase

-- what the last step does is a swap
abbrev pub is_swap : LastStep → Bool
is_swap last_step.Store = false
is_swap last_step.Swap = true

-- the next step is the last one, and a swap
abbrev pub swaps_in : LastStep → StorePhase → Bool
swaps_in last Begun = false
swaps_in last Unlogged = false
swaps_in last (Loaded old) = false
swaps_in last Logged = is_swap last
swaps_in last (Ended how) = false

-- its next step is its swap
abbrev pub swaps_next : Storing → Bool
swaps_next s = swaps_in s.last s.phase
