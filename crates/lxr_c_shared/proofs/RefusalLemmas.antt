-- A mutator with no open operation that refuses one which it may be asked for has no room for it.
use Rattle.std.proofs.Common.{◌≡◌, true, ⊎_elim}
use Rattle.lxr_graph.specs.declared.Op.{Op}
use Rattle.lxr_core.specs.declared.actors.AnyActor.{AnyActor}
use Rattle.lxr_core.specs.declared.actors.AnyActor.TheVariants as any
use Rattle.lxr_stations.specs.Stations.{IsOpen, Refuses, is_mutator}
use Rattle.lxr_c_shared.specs.Passing.{IsUsedUp}

pub used_up : (a : AnyActor) (o : Op) → is_mutator a ≡ true → (¬ IsOpen a) → Refuses a o → IsUsedUp a o
used_up (any.Mutator m) o is shut why = (
  shut,
  λ may. ⊎_elim (λ pending. absurd (shut pending)) (λ rest. ⊎_elim (λ none. absurd (none may)) (λ full. full) rest) why,
)
used_up (any.Decrementer d) o is shut why = absurd (cc)
used_up (any.Tracer d) o is shut why = absurd (cc)
