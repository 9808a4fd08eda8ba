-- Each step of a tracer in an epoch, by its phase; a unit begins with the step of what it tries first.
use Rattle.std.proofs.Common.{◌≡◌, ℕ, ◌*◌, arith, ap, ◌∙◌, List, false}
use Rattle.std.specs.Prelude.{IsSome, Option, Some, None, slice_get}
use Rattle.lxr_layout.specs.declared.Place.{Place}
use Rattle.lxr_layout.specs.declared.limits.Regions.{Regions}
use Rattle.lxr_layout.specs.Spaces.{regions_of}
use Rattle.lxr_helper.specs.Words.{InHeap}
use Rattle.lxr_helper.specs.Helpers.{in_phase, spared}
use Rattle.lxr_trace.specs.declared.phases.TracerPhase.{TracerPhase}
use Rattle.lxr_trace.specs.declared.phases.TracerPhase.TheVariants as phase
use Rattle.lxr_trace.specs.Tracing.{TracerState, rests_in}
use Rattle.lxr_trace.specs.Steps.{question, tracer_work}
use Rattle.lxr_trace.specs.Lawful.{tracer_lawful}
use Rattle.lxr_core_access.specs.declared.Access.{Access}
use Rattle.lxr_core_access.specs.Accesses.{MayBeDone}
use Rattle.lxr_core_access.specs.Tracers.{Attempts, Tracing, IsTry, begins, goes_on}
use Rattle.lxr_core_access.specs.Tracers as tracing
use Rattle.lxr_core_invariant.specs.EpochStates.{Beginning, EpochState, limits_of}
use Rattle.lxr_core_invariant.specs.Decremented.{MayTrace}
use Rattle.lxr_core_invariant.specs.Epoch.{IsEpoch}
use Rattle.lxr_core_inv_trace.proofs.ScansKeepingLemmas.{tracers_are_sound}
use Rattle.lxr_core_sim_helpers.specs.TracerShowing.{IsTracerOf, tracing_in, tracing_of}
use Rattle.lxr_core_sim_helpers.specs.TracerStepping.{TracerStepsAreEvents, ShowsTracer}
use Rattle.lxr_core_sim_helpers.proofs.HelperLemmas as lemma
use Rattle.lxr_core_sim_helpers.proofs.TracerOutcomeLemmas.{Goes, Leads, access_in, looks_on}
use Rattle.lxr_core_sim_helpers.proofs.TracerAskingSteps.{asks_gray, asks_object, finds_nothing, marks}
use Rattle.lxr_core_sim_helpers.proofs.ScanningSteps.{asks_block, asks_referent, draws_number, enters, grays_referent, reads_reuse, reads_shape, scans}

-- ---- what is tried

-- an access may happen where it is that of what is attempted, and may be done then
abbrev Tries : Beginning → Tracing → Tracing → Type 0
Tries b before about = Attempts (limits_of b).blocks before about

may_happen : (b : Beginning) (s : EpochState) (i : ℕ) (access : Access) (before about after : Tracing) → slice_get s.tracers i ≡ Some before → Tries b before about
    → access_in b about ≡ Some access → Goes b s about after → MayTrace b s i access after
may_happen b s i access before about after shows attempts is goes = record { before = before; shows = shows; steps = record { about = about; attempts = attempts; access_is = is; goes = goes } }

may_be_done : (b : Beginning) (s : EpochState) (i : ℕ) (access : Access) (after : Tracing) → IsEpoch b s → MayTrace b s i access after → MayBeDone (limits_of b) s.tables access
may_be_done b s i access after is may = (tracers_are_sound b s i access after is may).0.may

-- what is tried is the pocket's last place, if it has one, and it finds nothing where the pocket is empty
abbrev Try : Beginning → Tracing → Type 0
Try b x = IsTry (limits_of b).blocks x

try_place : (b : Beginning) (r : Regions) (place : Place) → r ≡ regions_of (limits_of b) → InHeap r place → Try b (tracing_in (question (Some place)))
try_place b r place is low =
    let counts : r.counts ≡ 4096 * (limits_of b).blocks = ap (λ x. x.counts) is ∙ omega arith in
    let last = low.1 in
    tracing.pocket place.0 low.0 (omega (arith, counts, last))

-- so a tracer looks on
tries : (b : Beginning) (d : TracerState) → IsTracerOf (limits_of b) d → Try b (tracing_of (looks_on d))
tries b d is = lemma.tries tracer_work tracing_in access_in Goes tracer_lawful (λ (x : EpochState). x.tracers) MayTrace Tries may_happen may_be_done Try (λ b x. begins x) (λ b x. goes_on x) try_place (λ b. tracing.nothing) b d is

-- a unit begins with this
first_tried : (b : Beginning) (s : EpochState) (d : TracerState) (place : Option Place) → Leads b s (in_phase tracer_work (spared tracer_work d).0 (question place)) (question place)
first_tried b s d None = finds_nothing b s (in_phase tracer_work (spared tracer_work d).0 phase.FindsNothing)
first_tried b s d (Some place) = asks_gray b s (in_phase tracer_work (spared tracer_work d).0 (phase.AsksGray place)) place

-- ---- each phase

-- a tracer in a phase
abbrev on : TracerState → TracerPhase → TracerState
on d p = in_phase tracer_work d p

-- where its step leads
leads : (b : Beginning) (s : EpochState) (words : List ℕ) (i : ℕ) (d : TracerState) (p : TracerPhase) → ShowsTracer b s words i (on d p) → rests_in p ≡ false → Leads b s (on d p) p
leads b s words i d phase.Resting shows busy = absurd (cc)
leads b s words i d (phase.AsksGray place) shows busy = asks_gray b s (on d (phase.AsksGray place)) place
leads b s words i d (phase.AsksObject place gray) shows busy = asks_object b s (on d (phase.AsksObject place gray)) place (tries b (on d (phase.AsksObject place gray)) shows.helper) gray
leads b s words i d (phase.Marks place) shows busy = marks b s (on d (phase.Marks place)) place (tries b (on d (phase.Marks place)) shows.helper)
leads b s words i d (phase.ReadsShape place) shows busy = reads_shape b s (on d (phase.ReadsShape place)) place shows.epoch shows.helper.regions (shows.epoch.scanned.knows i (tracing.ReadsShape place.0) shows.shows).0
leads b s words i d (phase.Scans scan) shows busy = scans b s (on d (phase.Scans scan)) scan shows.epoch shows.helper.regions (shows.epoch.scanned.knows i (tracing_in (phase.Scans scan)) shows.shows)
leads b s words i d (phase.AsksReferent scan referent) shows busy = asks_referent b s (on d (phase.AsksReferent scan referent)) scan referent
leads b s words i d (phase.GraysReferent scan referent) shows busy = grays_referent b s (on d (phase.GraysReferent scan referent)) scan referent
leads b s words i d (phase.AsksBlock scan referent) shows busy = asks_block b s (on d (phase.AsksBlock scan referent)) scan referent
leads b s words i d (phase.ReadsReuse scan) shows busy = reads_reuse b s (on d (phase.ReadsReuse scan)) scan
leads b s words i d (phase.DrawsNumber scan counter) shows busy = draws_number b s (on d (phase.DrawsNumber scan counter)) scan counter shows.helper.regions
leads b s words i d (phase.Enters scan counter number) shows busy = enters b s (on d (phase.Enters scan counter number)) scan counter number
leads b s words i d phase.FindsNothing shows busy = finds_nothing b s (on d phase.FindsNothing)

-- each step
pub each_step : TracerStepsAreEvents
each_step b s words i d shows some =
    lemma.each_step tracer_work tracing_in access_in Goes tracer_lawful (λ (x : EpochState). x.tracers) MayTrace Tries may_happen may_be_done Try (λ b x. begins x) (λ b x. goes_on x) try_place (λ b. tracing.nothing)
    first_tried leads b s words i d shows some
