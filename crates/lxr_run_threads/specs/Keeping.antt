-- With whom a helper shares.
use Rattle.std.specs.Prelude.{◌≡◌}
use Rattle.lxr_core.specs.declared.actors.AnyActor.{AnyActor}
use Rattle.lxr_core.specs.declared.actors.AnyActor.TheVariants as any
use Rattle.lxr_run_threads.specs.declared.helping.Hints.{Hints}

-- decrementers share with decrementers, and tracers with tracers: a helper changes what its like share by alone, and a mutator nothing
abbrev pub KeepsOthers : AnyActor → Hints → Hints → Type 0
KeepsOthers (any.Mutator m) before after = after ≡ before
KeepsOthers (any.Decrementer d) before after = after.tracers ≡ before.tracers
KeepsOthers (any.Tracer d) before after = after.decrementers ≡ before.decrementers
