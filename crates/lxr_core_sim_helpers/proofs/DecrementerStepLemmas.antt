-- Each step of a decrementer in an epoch, by its phase; a unit begins with the step of what it tries first.
use Rattle.std.proofs.Common.{◌≡◌, ℕ, ◌*◌, arith, ap, ◌∙◌, List, false}
use Rattle.std.specs.Prelude.{IsSome, Option, Some, None, slice_get}
use Rattle.lxr_layout.specs.declared.Place.{Place}
use Rattle.lxr_layout.specs.declared.limits.Regions.{Regions}
use Rattle.lxr_layout.specs.Spaces.{regions_of}
use Rattle.lxr_helper.specs.Words.{InHeap}
use Rattle.lxr_helper.specs.Helpers.{in_phase, spared}
use Rattle.lxr_decrement.specs.declared.phases.DecrementerPhase.{DecrementerPhase}
use Rattle.lxr_decrement.specs.declared.phases.DecrementerPhase.TheVariants as phase
use Rattle.lxr_decrement.specs.Decrementing.{DecrementerState, rests_in}
use Rattle.lxr_decrement.specs.Steps.{decrementer_work, question}
use Rattle.lxr_decrement.specs.Lawful.{decrementer_lawful}
use Rattle.lxr_core_access.specs.declared.Access.{Access}
use Rattle.lxr_core_access.specs.Accesses.{MayBeDone}
use Rattle.lxr_core_access.specs.Decrementers.{Attempts, Decrementing, IsTry, begins, decrementer_access, goes_on}
use Rattle.lxr_core_access.specs.Decrementers as decrementing
use Rattle.lxr_core_invariant.specs.EpochStates.{Beginning, EpochState, limits_of}
use Rattle.lxr_core_invariant.specs.Decremented.{MayDecrement}
use Rattle.lxr_core_invariant.specs.Epoch.{IsEpoch}
use Rattle.lxr_core_inv_counts.proofs.KeepingLemmas.{decrementers_are_sound}
use Rattle.lxr_core_sim_helpers.specs.DecrementerShowing.{IsDecrementerOf, decrementing_in, decrementing_of}
use Rattle.lxr_core_sim_helpers.specs.DecrementerStepping.{DecrementerStepsAreEvents, ShowsDecrementer}
use Rattle.lxr_core_sim_helpers.proofs.HelperLemmas as lemma
use Rattle.lxr_core_sim_helpers.proofs.DecrementerOutcomeLemmas.{Goes, Leads, looks_on}
use Rattle.lxr_core_sim_helpers.proofs.DecrementerAskingSteps.{asks_count, asks_start, claims}
use Rattle.lxr_core_sim_helpers.proofs.HandlingSteps.{asks_tracing, makes_gray, reads_header, reads_reference}
use Rattle.lxr_core_sim_helpers.proofs.LoweringSteps.{asks_lowered, lowers}
use Rattle.lxr_core_sim_helpers.proofs.DrawingSteps.{asks_cursor, asks_number, draws, reads_entry}

-- ---- what is tried

-- an access may happen where it is that of what is attempted, and may be done then
abbrev Tries : Beginning → Decrementing → Decrementing → Type 0
Tries b before about = Attempts (limits_of b).blocks before about

may_happen : (b : Beginning) (s : EpochState) (i : ℕ) (access : Access) (before about after : Decrementing) → slice_get s.decrementers i ≡ Some before → Tries b before about
    → decrementer_access about ≡ Some access → Goes b s about after → MayDecrement b s i access after
may_happen b s i access before about after shows attempts is goes = record { before = before; shows = shows; steps = record { about = about; attempts = attempts; access_is = is; goes = goes } }

may_be_done : (b : Beginning) (s : EpochState) (i : ℕ) (access : Access) (after : Decrementing) → IsEpoch b s → MayDecrement b s i access after → MayBeDone (limits_of b) s.tables access
may_be_done b s i access after is may = (decrementers_are_sound b s i access after is may).0.may

-- what is tried is the pocket's last place, if it has one, or the list
abbrev Try : Beginning → Decrementing → Type 0
Try b x = IsTry (limits_of b).blocks x

try_place : (b : Beginning) (r : Regions) (place : Place) → r ≡ regions_of (limits_of b) → InHeap r place → Try b (decrementing_in (question (Some place)))
try_place b r place is low =
    let counts : r.counts ≡ 4096 * (limits_of b).blocks = ap (λ x. x.counts) is ∙ omega arith in
    let last = low.1 in
    decrementing.pocket place.0 low.0 (omega (arith, counts, last))

-- so a decrementer looks on
tries : (b : Beginning) (d : DecrementerState) → IsDecrementerOf (limits_of b) d → Try b (decrementing_of (looks_on d))
tries b d is = lemma.tries decrementer_work decrementing_in (λ b x. decrementer_access x) Goes decrementer_lawful (λ (x : EpochState). x.decrementers) MayDecrement Tries may_happen may_be_done Try (λ b x. begins x) (λ b x. goes_on x) try_place (λ b. decrementing.list) b d is

-- a unit begins with this
first_tried : (b : Beginning) (s : EpochState) (d : DecrementerState) (place : Option Place) → Leads b s (in_phase decrementer_work (spared decrementer_work d).0 (question place)) (question place)
first_tried b s d None = asks_cursor b s (in_phase decrementer_work (spared decrementer_work d).0 phase.AsksCursor)
first_tried b s d (Some place) = asks_count b s (in_phase decrementer_work (spared decrementer_work d).0 (phase.AsksCount place)) place

-- ---- each phase

-- a decrementer in a phase
abbrev on : DecrementerState → DecrementerPhase → DecrementerState
on d p = in_phase decrementer_work d p

-- where its step leads
leads : (b : Beginning) (s : EpochState) (words : List ℕ) (i : ℕ) (d : DecrementerState) (p : DecrementerPhase) → ShowsDecrementer b s words i (on d p) → rests_in p ≡ false → Leads b s (on d p) p
leads b s words i d phase.Resting shows busy = absurd (cc)
leads b s words i d (phase.AsksCount place) shows busy = asks_count b s (on d (phase.AsksCount place)) place
leads b s words i d (phase.AsksStart place uncounted) shows busy = asks_start b s (on d (phase.AsksStart place uncounted)) place (tries b (on d (phase.AsksStart place uncounted)) shows.helper) uncounted
leads b s words i d (phase.Claims place) shows busy = claims b s (on d (phase.Claims place)) place (tries b (on d (phase.Claims place)) shows.helper)
leads b s words i d (phase.ReadsHeader place) shows busy = reads_header b s (on d (phase.ReadsHeader place)) place shows.epoch shows.helper.regions (shows.epoch.counted.knows i (decrementing.ReadsHeader place.0) shows.shows)
leads b s words i d (phase.AsksTracing place refs) shows busy = asks_tracing b s (on d (phase.AsksTracing place refs)) place refs
leads b s words i d (phase.ReadsReference place refs index traced) shows busy = reads_reference b s i (on d (phase.ReadsReference place refs index traced)) place refs index traced shows.epoch shows.helper.regions shows.shows
leads b s words i d (phase.MakesGray place refs index referent) shows busy = makes_gray b s (on d (phase.MakesGray place refs index referent)) place refs index referent
leads b s words i d (phase.AsksLowered referent handling) shows busy = asks_lowered b s (on d (phase.AsksLowered referent handling)) referent handling
leads b s words i d (phase.Lowers referent handling) shows busy = lowers b s (on d (phase.Lowers referent handling)) referent handling
leads b s words i d phase.AsksCursor shows busy = asks_cursor b s (on d phase.AsksCursor)
leads b s words i d (phase.AsksNumber cursor) shows busy = asks_number b s (on d (phase.AsksNumber cursor)) cursor shows.epoch shows.helper.regions
leads b s words i d (phase.Draws count) shows busy = draws b s (on d (phase.Draws count)) count
leads b s words i d (phase.ReadsEntry number) shows busy = reads_entry b s (on d (phase.ReadsEntry number)) number shows.epoch shows.helper.regions (shows.epoch.counted.knows i (decrementing.ReadsEntry number) shows.shows)

-- each step
pub each_step : DecrementerStepsAreEvents
each_step b s words i d shows some =
    lemma.each_step decrementer_work decrementing_in (λ b x. decrementer_access x) Goes decrementer_lawful (λ (x : EpochState). x.decrementers) MayDecrement Tries may_happen may_be_done Try (λ b x. begins x) (λ b x. goes_on x) try_place (λ b. decrementing.list)
    first_tried leads b s words i d shows some
