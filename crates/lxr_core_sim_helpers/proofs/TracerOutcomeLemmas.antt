-- A tracer's step is the access of what it is about to do.
use Rattle.std.proofs.Common.{◌≡◌, ℕ, ◌+◌, Bool, true, false, refl}
use Rattle.std.specs.Prelude.{Option, nat_lt, if◌then◌else◌}
use Rattle.lxr_helper.specs.Helpers.{Outcome, ends, goes_to}
use Rattle.lxr_helper.specs.Helpers as helper
use Rattle.lxr_trace.specs.declared.phases.Scan.{Scan}
use Rattle.lxr_trace.specs.declared.phases.TraceEnd.{TraceEnd}
use Rattle.lxr_trace.specs.declared.phases.TracerPhase.{TracerPhase}
use Rattle.lxr_trace.specs.declared.phases.TracerPhase.TheVariants as phase
use Rattle.lxr_trace.specs.Tracing.{TracerState}
use Rattle.lxr_trace.specs.Steps.{at_reference, end_of, scanned, tracer_work}
use Rattle.lxr_core_access.specs.declared.Access.{Access}
use Rattle.lxr_core_access.specs.Tracers.{Tracing, TracerGoes, Rests, Scans, scanned_next, tracer_access}
use Rattle.lxr_core_invariant.specs.EpochStates.{Beginning, EpochState, limits_of}
use Rattle.lxr_core_sim_helpers.specs.TracerShowing.{tracing_in, tracing_of}
use Rattle.lxr_core_sim_helpers.proofs.HelperLemmas as lemma

-- where a step leads, and where it looks on
abbrev pub led : TracerState → Outcome TracerPhase TraceEnd → TracerState
led d o = helper.led tracer_work d o

abbrev pub looks_on : TracerState → TracerState
looks_on d = helper.looks_on tracer_work d

-- where the tables lead
abbrev pub Goes : Beginning → EpochState → Tracing → Tracing → Type 0
Goes b s about after = TracerGoes (limits_of b).blocks (limits_of b).remember s.tables about after

-- the access of its next step, in the heap of this epoch
abbrev pub access_in : Beginning → Tracing → Option Access
access_in b about = tracer_access (limits_of b).blocks about

-- In a phase the machine does an access, and goes where the tables lead, whatever else its word tells.
abbrev pub Leads : Beginning → EpochState → TracerState → TracerPhase → Type 0
Leads b s d p = lemma.Leads tracer_work tracing_in access_in Goes b s d p

-- once a reference comes, or an object is scanned whole, it is about to do what comes next
pub at_shown : (d : TracerState) (scan : Scan) → tracing_of (led d (at_reference scan)) ≡ scanned_next scan.place.0 scan.refs scan.index
at_shown d scan = by_test (nat_lt scan.index scan.refs)
  where
    by_test : (c : Bool) → tracing_of (led d (if c then goes_to (phase.Scans scan) else ends (end_of scan.overflowed))) ≡ (if c then Scans scan.place.0 scan.refs scan.index else Rests)
    by_test true = refl
    by_test false = refl

-- so it is once a reference is done with
pub scanned_shown : (d : TracerState) (scan : Scan) → tracing_of (led d (scanned scan)) ≡ scanned_next scan.place.0 scan.refs (scan.index + 1)
scanned_shown d scan = at_shown d (record scan { index = scan.index + 1 })
