-- The decrementers and tracers behind the mutators.
use Rattle.std.specs.Prelude.{◌≡◌, ℕ, List, ◌++◌, map, replicate}
use Rattle.lxr_layout.specs.declared.limits.Limits.{Limits}
use Rattle.lxr_decrement.specs.Decrementers.{first as first_decrementer}
use Rattle.lxr_trace.specs.Tracers.{first as first_tracer}
use Rattle.lxr_core.specs.declared.actors.AnyActor.{AnyActor}
use Rattle.lxr_core.specs.declared.actors.AnyActor.TheVariants as any

-- behind these actors stand so many decrementers and as many tracers, each as it is made
abbrev pub HelpersStandBehind : Limits → ℕ → List AnyActor → List AnyActor → Type 0
HelpersStandBehind limits count actors actors' =
    actors' ≡ actors ++ map any.Decrementer (replicate count (first_decrementer limits)) ++ map any.Tracer (replicate count (first_tracer limits))
