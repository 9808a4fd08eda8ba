-- A run whose names are renewed between two epochs: behind that its threads are asked for what they were asked for and haven't done yet.
use Rattle.std.specs.Prelude.{◌≡◌, ◌≢◌, ℕ, ◌+◌, true, Option, Some, None, List, ◌∷◌, if◌then◌else◌, length, nat_eq, slice_get}
use Rattle.lxr_layout.specs.declared.Name.{Name}
use Rattle.lxr_graph.specs.History.{Item, Renew}
use Rattle.lxr_graph.specs.State.{world_name}
use Rattle.lxr_image.specs.declared.space.Space.{Space}
use Rattle.lxr_model.specs.Moments.{renewed_moment}
use Rattle.lxr_model.specs.Renewing.{IsBehindDraining}
use Rattle.lxr_invariant.specs.AbstractState.{AbstractState}
use Rattle.lxr_renew.specs.Renewing.{Renews}
use Rattle.lxr_mutator.specs.declared.phases.MutEnd.TheVariants as ends
use Rattle.lxr_mutator.specs.Mutating.{Mutating}
use Rattle.lxr_mutator.specs.Mutators.{renewed}
use Rattle.lxr_core.specs.declared.actors.AnyActor.{AnyActor}
use Rattle.lxr_core.specs.Actors.{AreInOrder, decrementers_in, mutators_in, script_of, tracers_in}
use Rattle.lxr_sights.specs.Sights.{Sight}
use Rattle.lxr_rounds_invariant.specs.LoopInvariant.{IsBetweenEpochs, Task}

-- of the objects that are left, which have these names, thread 1 has all
abbrev pub left_for : List Name → ℕ → ℕ
left_for ns t = if nat_eq t 1 then length ns else 0

-- each mutator counts from what is left for its thread, and the helpers stay
pub record AreRenewed (ns : List Name) (before after : List AnyActor) : Type 0 where
  pub as_many : length (mutators_in after) ≡ length (mutators_in before)
  pub each : (i : ℕ) (m : Mutating) → slice_get (mutators_in before) i ≡ Some m → slice_get (mutators_in after) i ≡ Some (renewed m (left_for ns (i + 1)))
  pub decrementers : decrementers_in after ≡ decrementers_in before
  pub tracers : tracers_in after ≡ tracers_in before
  pub order : AreInOrder after

-- The names of what is left may be renewed between two epochs, which are these and the world's: the run's terms allow it, the last pause was a
-- draining one, after which no trace runs, and no thread has ended.
pub record MayBeRenewed (task : Task) (actors : List AnyActor) (h : List Item) (g : AbstractState) (ns : List Name) : Type 0 where
  pub renews : task.renews ≡ true
  pub behind : IsBehindDraining h
  pub untraced : g.moment.trace ≡ None
  pub left : g.moment.unreclaimed ≡ world_name ∷ ns
  pub go_on : (i : ℕ) (m : Mutating) → slice_get (mutators_in actors) i ≡ Some m → m.end ≢ Some ends.Ended

-- the task behind it: what is seen from there on, and what threads are still asked for
abbrev pub task_renewed : Task → Option (List Sight) → List AnyActor → Task
task_renewed task seen actors = record task { script = script_of (mutators_in actors); seen = seen }

-- Then the run is between two epochs again, with a history that has the renewal.
abbrev pub RunsAreRenewed : Type 0
RunsAreRenewed = (task : Task) (space after : Space) (seen : Option (List Sight)) (actors actors' : List AnyActor) (h : List Item) (g : AbstractState) (ns : List Name)
    → IsBetweenEpochs task space seen actors h g → MayBeRenewed task actors h g ns → (r : Renews space after g ns) → AreRenewed ns actors actors'
    → IsBetweenEpochs (task_renewed task seen actors') after seen actors' (Renew ns ∷ h)
    (record { moment = renewed_moment space.limits.threads ns g.moment; at = r.at; reported = g.reported })
