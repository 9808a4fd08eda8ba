-- Laws of states, each the contract of a function with an empty body: the least sets, and what a step makes reachable.
use Rattle.std.specs.Prelude.{◌≡◌, ℕ, ◌<◌, ◌⊎◌, Bool, List, IsTrue, length}
use Rattle.lxr_layout.specs.declared.Name.{Name}
use Rattle.lxr_graph.specs.declared.Op.{Op}
use Rattle.lxr_graph.specs.declared.Reply.TheVariants as reply
use Rattle.lxr_graph.specs.Names.{has}
use Rattle.lxr_graph.specs.State.{State, HasObject, object_at, world_name}
use Rattle.lxr_graph.specs.Step.{step}
use Rattle.lxr_model.specs.Reachable.{Reachable, Refers, IsClosed}
use Rattle.lxr_model.specs.Dead.{Dead, IsClosedUnderDeath, Promoted, IsClosedUnderPromotion}

-- ---- least sets

-- what is reachable is in every set that has the world, what registers hold and the references of its members
abbrev pub ReachableIsLeast : Type 0
ReachableIsLeast = (s : State) (p : Name → Bool) → IsClosed s p → (n : Name) → Reachable s n → IsTrue (p n)

-- the dead are in every set that has each unstuck member of U which no register and only its members hold
abbrev pub DeadIsLeast : Type 0
DeadIsLeast =
    (s : State) (us stuck : List Name) (p : Name → Bool) → IsClosedUnderDeath s us stuck p → (o : Name)
    → Dead s us stuck o → IsTrue (p o)

-- the promoted are in every set that has each name made which a register, a kept name or one of its members holds
abbrev pub PromotedIsLeast : Type 0
PromotedIsLeast =
    (s : State) (kept made : List Name) (p : Name → Bool) → IsClosedUnderPromotion s kept made p → (n : Name)
    → Promoted s kept made n → IsTrue (p n)

-- ---- the dead

-- the dead of U aren't reachable, where U has all that is reachable and the world is stuck
abbrev pub DeadAreUnreachable : Type 0
DeadAreUnreachable =
    (s : State) (us stuck : List Name) → ((n : Name) → Reachable s n → IsTrue (has us n)) → IsTrue (has stuck world_name)
    → (o : Name) → Dead s us stuck o → ¬ Reachable s o

-- ---- a step

-- what is reachable after a step was so before it, or is the name that it made
abbrev pub StepReachesNewName : Type 0
StepReachesNewName =
    (s : State) (t : ℕ) (o : Op) → t < length s.graph → (n : Name) → Reachable (step s t o).0 n
    → Reachable s n ⊎ ((step s t o).1 ≡ reply.New n)

-- what an object refers to after a step it referred to before it, or it was reachable
abbrev pub StepStoresTheReachable : Type 0
StepStoresTheReachable =
    (s : State) (t : ℕ) (o : Op) → t < length s.graph → (m n : Name) → Refers (step s t o).0.graph m n
    → Refers s.graph m n ⊎ Reachable s n

-- an object that isn't reachable stays so in a step, and keeps its references and data
abbrev pub UnreachableStays : Type 0
UnreachableStays =
    (s : State) (t : ℕ) (o : Op) → t < length s.graph → (n : Name) → HasObject s.graph n → ¬ Reachable s n
    → ¬ Reachable (step s t o).0 n × (object_at (step s t o).0.graph n ≡ object_at s.graph n)

-- a step loses no object, and the name that it makes had none before
abbrev pub StepKeepsObjects : Type 0
StepKeepsObjects =
    (s : State) (t : ℕ) (o : Op) → t < length s.graph → (n : Name)
    → (HasObject s.graph n → HasObject (step s t o).0.graph n) × ((step s t o).1 ≡ reply.New n → ¬ HasObject s.graph n × HasObject (step s t o).0.graph n)
