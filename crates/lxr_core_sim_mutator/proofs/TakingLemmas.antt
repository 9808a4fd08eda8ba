-- A load or a swap takes the place that it found into a register: what the machine is then, and what it shows.
use Rattle.std.proofs.Common.{◌≡◌, ℕ, ◌<◌, ◌≤◌, Bool, true, false, arith, refl, sym, ap, subst, ◌∙◌, length}
use Rattle.std.specs.Prelude.{Option, None, nat_eq, slice_set, if◌then◌else◌}
use Rattle.lxr_layout.specs.declared.TheConstants.{MOST_GRANULES}
use Rattle.lxr_layout.specs.Spaces.{regions_of}
use Rattle.lxr_layout.specs.declared.Name.{Name}
use Rattle.lxr_layout.specs.declared.Place.{Place}
use Rattle.lxr_layout.specs.declared.limits.Limits.{Limits}
use Rattle.lxr_graph.specs.declared.Op.{Op}
use Rattle.lxr_graph.specs.declared.Op.TheVariants as op
use Rattle.lxr_mutator.specs.declared.phases.MutatorPhase.TheVariants as phase
use Rattle.lxr_mutator.specs.Mutating.{Mutating, op_now}
use Rattle.lxr_mutator.specs.Operating.{dest_of, found_reply}
use Rattle.lxr_mutator.specs.Steps.{done_with, referring, with_register}
use Rattle.lxr_core_invariant.specs.ThreadStates.{ThreadState, Names, is_end}
use Rattle.lxr_core_invariant.specs.Events as epoch
use Rattle.lxr_core_invariant.specs.Happening.{at_stage}
use Rattle.lxr_core_sim_mutator.specs.Showing.{IsMutatorOf, TakesReference, thread_state_of}
use Rattle.lxr_core_sim_mutator.proofs.KeepingLemmas.{GoesOn, IsOfSpace, thread_state_done, to_done, to_phase, with_place}

-- the machine once it took a place, which is nil or not
abbrev taken_as : Mutating → Place → Bool → Mutating
taken_as m p none =
    if none then done_with (with_register m (dest_of (op_now m)) p) (found_reply (op_now m) None)
    else referring (with_register m (dest_of (op_now m)) p) m.names p

-- what it shows then
abbrev shown_as : ThreadState → Op → ℕ → Place → Bool → ThreadState
shown_as v o dest p none =
    if none then epoch.done_with (record v { registers = slice_set v.registers dest p }) o (epoch.found_reply o None)
    else at_stage (record v { registers = slice_set v.registers dest p }) (Names p.0)

-- the machine replies what it found as the epoch says
pub same_found : (o : Op) (found : Option Name) → found_reply o found ≡ epoch.found_reply o found
same_found (op.Swap dest base index source) found = refl
same_found o found = refl

-- a machine that tells names and took a place shows it
pub taken_shown : (m : Mutating) (p : Place) (none : Bool) → m.names ≡ true → m.since < m.every → is_end (op_now m) ≡ false → thread_state_of (taken_as m p none) ≡ shown_as (thread_state_of m) (op_now m) (dest_of (op_now m)) p none
taken_shown m p true names below goes =
    let n = with_register m (dest_of (op_now m)) p in
    thread_state_done n (op_now m) (found_reply (op_now m) None) below goes ∙ ap (epoch.done_with (thread_state_of n) (op_now m)) (same_found (op_now m) None)
taken_shown m p false names below goes = ap (λ (b : Bool). thread_state_of (referring (with_register m (dest_of (op_now m)) p) b p)) names

-- a machine that tells names and took a place is a mutator of the space
pub taken_kept : (l : Limits) (m : Mutating) (p : Place) (none : Bool) → m.names ≡ true → dest_of (op_now m) < m.width → GoesOn m → IsOfSpace l m → length m.replies.items < length m.operations → TakesReference m → p.0 ≤ MOST_GRANULES
    → nat_eq p.0 0 ≡ none → IsMutatorOf l (taken_as m p none)
taken_kept l m p true names named goes space more takes low e = to_done l (with_register m (dest_of (op_now m)) p) (found_reply (op_now m) None) (with_place m (dest_of (op_now m)) p named goes low) space more
taken_kept l m p false names named goes space more takes low e =
    subst (λ (b : Bool). IsMutatorOf l (referring (with_register m (dest_of (op_now m)) p) b p)) (sym names)
    (to_phase l (with_register m (dest_of (op_now m)) p) (phase.Referent p) (with_place m (dest_of (op_now m)) p named goes low) space more (grind (arith, e), low) takes)
