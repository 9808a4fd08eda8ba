-- A decrementer's step is the access of what it is about to do.
use Rattle.std.proofs.Common.{◌≡◌, Bool, true, false, refl}
use Rattle.std.specs.Prelude.{nat_lt, if◌then◌else◌}
use Rattle.lxr_helper.specs.Helpers.{Outcome, ends, goes_to}
use Rattle.lxr_helper.specs.Helpers as helper
use Rattle.lxr_decrement.specs.declared.phases.DecEnd.{DecEnd}
use Rattle.lxr_decrement.specs.declared.phases.DecEnd.TheVariants.{Worked}
use Rattle.lxr_decrement.specs.declared.phases.DecrementerPhase.{DecrementerPhase}
use Rattle.lxr_decrement.specs.declared.phases.DecrementerPhase.TheVariants as phase
use Rattle.lxr_decrement.specs.declared.phases.Handling.TheVariants as handled
use Rattle.lxr_decrement.specs.declared.phases.Handling as machine
use Rattle.lxr_decrement.specs.Decrementing.{DecrementerState}
use Rattle.lxr_decrement.specs.Steps.{decrementer_work, handled}
use Rattle.lxr_core_access.specs.Decrementers.{Decrementing, DecrementerGoes, ReadsReference, Rests, decrementer_access, handled_next}
use Rattle.lxr_core_invariant.specs.EpochStates.{Beginning, EpochState, limits_of}
use Rattle.lxr_core_sim_helpers.specs.DecrementerShowing.{decrementing_in, decrementing_of, handling_of}
use Rattle.lxr_core_sim_helpers.proofs.HelperLemmas as lemma

-- where a step leads, and where it looks on
abbrev pub led : DecrementerState → Outcome DecrementerPhase DecEnd → DecrementerState
led d o = helper.led decrementer_work d o

abbrev pub looks_on : DecrementerState → DecrementerState
looks_on d = helper.looks_on decrementer_work d

-- where the tables lead
abbrev pub Goes : Beginning → EpochState → Decrementing → Decrementing → Type 0
Goes b s about after = DecrementerGoes (limits_of b).blocks s.tables about after

-- In a phase the machine does an access, and goes where the tables lead, whatever else its word tells.
abbrev pub Leads : Beginning → EpochState → DecrementerState → DecrementerPhase → Type 0
Leads b s d p = lemma.Leads decrementer_work decrementing_in (λ b x. decrementer_access x) Goes b s d p

-- once a reference or an entry is done with, it is about to do what comes next
pub handled_shown : (d : DecrementerState) (h : machine.Handling) → decrementing_of (led d (handled h)) ≡ handled_next (handling_of h)
handled_shown d handled.Entry = refl
handled_shown d (handled.References place refs next traced) = by_test (nat_lt next refs)
  where
    by_test : (c : Bool) → decrementing_of (led d (if c then goes_to (phase.ReadsReference place refs next traced) else ends Worked))
        ≡ (if c then ReadsReference place.0 refs next traced else Rests)
    by_test true = refl
    by_test false = refl
