-- The mutators of a new heap.
use Rattle.std.specs.Prelude.{◌≡◌, ℕ, ◌+◌, Bool, Some, List, [], map, replicate, slice_get}
use Rattle.lxr_layout.specs.declared.limits.Limits.{Limits}
use Rattle.lxr_mutator.specs.Mutating.{Mutating}
use Rattle.lxr_mutator.specs.Mutators.{IsMutator, first_live}
use Rattle.lxr_core.specs.declared.actors.AnyActor.{AnyActor}
use Rattle.lxr_core.specs.declared.actors.AnyActor.TheVariants as any
use Rattle.lxr_core.specs.Actors.{mutators_in, script_of}

-- these actors are mutators of the first threads, so many, each as it is made to be ordered its operations, and to tell names or none
pub record AreNew (limits : Limits) (every : ℕ) (names : Bool) (n : ℕ) (actors : List AnyActor) : Type 0 where
  pub alone : actors ≡ map any.Mutator (mutators_in actors)
  pub script : script_of (mutators_in actors) ≡ replicate n []
  pub each : (i : ℕ) (m : Mutating) → slice_get (mutators_in actors) i ≡ Some m → m ≡ first_live (i + 1) limits every names
  pub sound : (i : ℕ) (m : Mutating) → slice_get (mutators_in actors) i ≡ Some m → IsMutator m
