-- Helpers keep the snapshot covered, where a trace runs.
use Rattle.std.proofs.Common.{◌≡◌, refl, subst}
use Rattle.std.specs.Prelude.{Option, Some, None, slice_set}
use Rattle.lxr_image.specs.Tables.{Tables}
use Rattle.lxr_model.specs.Moments.{Moment, Trace}
use Rattle.lxr_core_access.specs.declared.Access.{Access}
use Rattle.lxr_core_access.specs.Accesses.{done_to}
use Rattle.lxr_core_invariant.specs.EpochStates.{Beginning, EpochState, limits_of, moment_of}
use Rattle.lxr_core_invariant.specs.Logged.{logs_of}
use Rattle.lxr_core_invariant.specs.Covered.{IsCoveredByIn, IsCoveredWhile}
use Rattle.lxr_core_invariant.specs.Decremented.{decremented, traced}
use Rattle.lxr_core_invariant.specs.Laws.{DecrementersKeepCover, TracersKeepCover}
use Rattle.lxr_core_inv_trace.proofs.SnapshotFindLemmas.{helpers_find}
use Rattle.lxr_core_inv_trace.proofs.SnapshotCoverLemmas.{after_access, cover_on}
use Rattle.lxr_core_inv_trace.proofs.SnapshotTracerLemmas.{TracerKeeps, tracer_keeps_cover, tracer_steps}
use Rattle.lxr_core_inv_trace.proofs.SnapshotDecrementerLemmas.{DecrementerKeeps, decrementer_keeps_cover, decrementer_steps}

-- what is shown of a trace that runs is enough
pub while_runs : (b : Beginning) (s u : EpochState) (o : Option Trace) → ((trace : Trace) → o ≡ Some trace → IsCoveredByIn b s trace → IsCoveredByIn b u trace) → IsCoveredWhile b s o → IsCoveredWhile b u o
while_runs b s u None on is = tt
while_runs b s u (Some trace) on is = on trace refl is

pub tracers_keep_cover : TracersKeepCover
tracers_keep_cover b s i access after is may =
    let m : Moment = moment_of b s in
    let t : Tables = s.tables in
    let find = helpers_find b s is in
    let steps = tracer_steps (limits_of b).blocks (limits_of b).remember t b.abstract_state.moment b.abstract_state.at m s.at find may.before may.steps.about after (is.scanned.knows i may.before may.shows) may.steps.attempts may.steps.goes in
    let keeps : TracerKeeps t (done_to t access) m s.at may.before after = subst (λ (o : Option Access). TracerKeeps t (after_access t o) m s.at may.before after) may.steps.access_is steps in
    while_runs b s (traced s i access after) m.trace
    (λ trace runs. cover_on m s.at (logs_of s.thread_states) t (done_to t access) s.decrementers s.decrementers s.tracers (slice_set s.tracers i after)
    (tracer_keeps_cover t (done_to t access) m s.at s.decrementers s.tracers i may.before after may.shows keeps) trace)
    is.covered

pub decrementers_keep_cover : DecrementersKeepCover
decrementers_keep_cover b s i access after is may =
    let m : Moment = moment_of b s in
    let t : Tables = s.tables in
    let find = helpers_find b s is in
    while_runs b s (decremented s i access after) m.trace
    (λ trace runs covered.
    let steps = decrementer_steps (limits_of b).blocks t b.abstract_state.moment b.abstract_state.at m s.at find (find.tracing trace runs) may.before may.steps.about after (is.counted.knows i may.before may.shows)
    (covered.seen i may.before may.shows) may.steps.attempts may.steps.goes in
    let keeps : DecrementerKeeps t (done_to t access) m s.at may.before after = subst (λ (o : Option Access). DecrementerKeeps t (after_access t o) m s.at may.before after) may.steps.access_is steps in
    cover_on m s.at (logs_of s.thread_states) t (done_to t access) s.decrementers (slice_set s.decrementers i after) s.tracers s.tracers
    (decrementer_keeps_cover t (done_to t access) m s.at s.decrementers s.tracers i may.before after may.shows find.dead keeps) trace covered)
    is.covered
