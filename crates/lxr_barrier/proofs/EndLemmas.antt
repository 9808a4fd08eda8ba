-- How a store ends tells which step was its last.
use Rattle.std.proofs.Common.{◌≡◌, ℕ, Bool, true, false, refl}
use Rattle.std.specs.Prelude.{Some, None, IsTrue, if◌then◌else◌}
use Rattle.lxr_tables.specs.Entries.{is_set}
use Rattle.lxr_layout.specs.Places.{place_in}
use Rattle.lxr_layout.specs.declared.Place.{Place}
use Rattle.lxr_layout.specs.declared.runs.LogEntry.{LogEntry}
use Rattle.lxr_base.specs.Roomy.{Roomy}
use Rattle.lxr_actor.specs.declared.Kindred.TheVariants.{Swap}
use Rattle.lxr_barrier.specs.declared.machines.LastStep.{LastStep}
use Rattle.lxr_barrier.specs.declared.machines.LastStep.TheVariants as last_step
use Rattle.lxr_barrier.specs.declared.machines.StorePhase.{StorePhase}
use Rattle.lxr_barrier.specs.declared.machines.StorePhase.TheVariants.{Begun, Unlogged, Loaded, Logged, Ended}
use Rattle.lxr_barrier.specs.declared.machines.StoreEnd.TheVariants.{LogFull, Stored, Swapped}
use Rattle.lxr_barrier.specs.Storing.{Storing, action_in, bit_number, end_in, end_of, is_full, is_swap, last_end, next_action, phase_after, store_after, swaps_in, swaps_next, target}

-- the look at the bit tells no old reference
looked : (place : Place) (a b : Bool) → end_in (if a then (if b then Ended LogFull else Unlogged) else Logged) ≡ Some (Swapped place) → ⊥
looked place true true e = absurd (cc)
looked place true false e = absurd (cc)
looked place false b e = absurd (cc)

-- the last step tells one where it is a swap
last_tells : (last : LastStep) (old : ℕ) (place : Place) → end_in (Ended (last_end last old)) ≡ Some (Swapped place) → IsTrue (is_swap last) × (place ≡ place_in old)
last_tells last_step.Store old place e = absurd (cc)
last_tells last_step.Swap old place e = (refl, cc)

-- by its phase
swapped_in : (s : Storing) (log : Roomy LogEntry) (old : ℕ) (place : Place) (p : StorePhase) → end_in p ≡ None
    → end_in (phase_after s log old p) ≡ Some (Swapped place) → IsTrue (swaps_in s.last p) × (place ≡ place_in old)
swapped_in s log old place Begun on e = absurd (looked place (is_set old (bit_number s)) (is_full log) e)
swapped_in s log old place Unlogged on e = absurd (cc)
swapped_in s log old place (Loaded first) on e = absurd (cc)
swapped_in s log old place Logged on e = last_tells s.last old place e
swapped_in s log old place (Ended how) on e = absurd (cc)

-- a store that has just told an old reference did its swap, and found that
pub swap_found : (s : Storing) (log : Roomy LogEntry) (old : ℕ) (place : Place) → end_of s ≡ None → end_of (store_after s log old) ≡ Some (Swapped place)
    → IsTrue (swaps_next s) × (place ≡ place_in old)
swap_found s log old place on e = swapped_in s log old place s.phase on e

-- the last step doesn't end it for want of room
last_ends : (last : LastStep) (old : ℕ) → end_in (Ended (last_end last old)) ≡ Some LogFull → is_swap last ≡ false
last_ends last_step.Store old e = refl
last_ends last_step.Swap old e = absurd (cc)

full_in : (s : Storing) (log : Roomy LogEntry) (old : ℕ) (p : StorePhase) → end_in (phase_after s log old p) ≡ Some LogFull → swaps_in s.last p ≡ false
full_in s log old Begun e = refl
full_in s log old Unlogged e = refl
full_in s log old (Loaded first) e = refl
full_in s log old Logged e = last_ends s.last old e
full_in s log old (Ended how) e = refl

-- where a store has ended for want of room, it swapped nothing
pub full_swaps_nothing : (s : Storing) (log : Roomy LogEntry) (old : ℕ) → end_of (store_after s log old) ≡ Some LogFull → swaps_next s ≡ false
full_swaps_nothing s log old e = full_in s log old s.phase e

-- by its phase and what its last step does
swap_acts_in : (s : Storing) (p : StorePhase) (last : LastStep) → IsTrue (swaps_in last p) → action_in (record s { last = last }) p ≡ Some (record { kind = Swap; word = target s; operand = s.value.0 })
swap_acts_in s Begun last swaps = absurd (cc)
swap_acts_in s Unlogged last swaps = absurd (cc)
swap_acts_in s (Loaded old) last swaps = absurd (cc)
swap_acts_in s Logged last_step.Store swaps = absurd (cc)
swap_acts_in s Logged last_step.Swap swaps = refl
swap_acts_in s (Ended how) last swaps = absurd (cc)

-- the next step of a store that swaps next is a swap of the reference for the value
pub swap_acts : (s : Storing) → IsTrue (swaps_next s) → next_action s ≡ Some (record { kind = Swap; word = target s; operand = s.value.0 })
swap_acts s swaps = swap_acts_in s s.phase s.last swaps

-- by its phase
swap_ends_in : (s : Storing) (log : Roomy LogEntry) (old : ℕ) (p : StorePhase) → IsTrue (is_swap s.last) → end_in p ≡ None → end_in (phase_after s log old p) ≡ Some Stored → ⊥
swap_ends_in s log old Begun swap on e = unstored (is_set old (bit_number s)) (is_full log) e
  where
    unstored : (a b : Bool) → end_in (if a then (if b then Ended LogFull else Unlogged) else Logged) ≡ Some Stored → ⊥
    unstored true true q = absurd (cc)
    unstored true false q = absurd (cc)
    unstored false b q = absurd (cc)
swap_ends_in s log old Unlogged swap on e = absurd (cc)
swap_ends_in s log old (Loaded first) swap on e = absurd (cc)
swap_ends_in s log old Logged swap on e = by_last s.last swap e
  where
    by_last : (last : LastStep) → IsTrue (is_swap last) → end_in (Ended (last_end last old)) ≡ Some Stored → ⊥
    by_last last_step.Store is q = absurd (cc)
    by_last last_step.Swap is q = absurd (cc)
swap_ends_in s log old (Ended how) swap on e = absurd (cc)

-- a swap doesn't end as a store that tells nothing
pub swap_tells : (s : Storing) (log : Roomy LogEntry) (old : ℕ) → IsTrue (is_swap s.last) → end_of s ≡ None → end_of (store_after s log old) ≡ Some Stored → ⊥
swap_tells s log old swap on e = swap_ends_in s log old s.phase swap on e
