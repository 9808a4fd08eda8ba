-- Each step of a tracer's machine is a step of the epoch.
use Rattle.std.specs.Prelude.{ℕ, List}
use Rattle.lxr_trace.specs.Tracing.{TracerState}
use Rattle.lxr_trace.specs.Steps.{tracer_work}
use Rattle.lxr_core_invariant.specs.EpochStates.{Beginning, EpochState}
use Rattle.lxr_core_invariant.specs.Decremented.{MayTrace}
use Rattle.lxr_core_sim_helpers.specs.TracerShowing.{tracing_in}
use Rattle.lxr_core_sim_helpers.specs.HelperStepping as helper

-- The words and tracer i are those of an epoch state of the epoch.
abbrev pub ShowsTracer : Beginning → EpochState → List ℕ → ℕ → TracerState → Type 0
ShowsTracer b s words i d = helper.ShowsHelper tracer_work tracing_in (λ (x : EpochState). x.tracers) MayTrace b s words i d

-- A step of its machine fits, and is an access that may happen to it.
abbrev pub TracerStepIs : Beginning → EpochState → List ℕ → ℕ → TracerState → Type 0
TracerStepIs b s words i d = helper.HelperStepIs tracer_work tracing_in (λ (x : EpochState). x.tracers) MayTrace b s words i d

abbrev pub TracerStepsAreEvents : Type 0
TracerStepsAreEvents = helper.HelperStepsAreEvents tracer_work tracing_in (λ (x : EpochState). x.tracers) MayTrace

-- Places that are offered or given up change neither what it is about to do nor what holds of it; so it is made, and begins anew.
abbrev pub TracerHintsChangeNothing : Type 0
TracerHintsChangeNothing = helper.HintsChangeNothing tracer_work tracing_in

abbrev pub FirstIsTracer : Type 0
FirstIsTracer = helper.FirstIsHelper tracer_work tracing_in
