-- The references from one object more.
use Rattle.std.proofs.Common.{◌≡◌, ℕ, ◌+◌, ◌<◌, ◌≤◌, arith, List, [], ◌∷◌, ◌++◌, length, get_or, drop}
use Rattle.std.proofs.lemmas.List.{at_drop_all, at_drop_more}
use Rattle.lxr_layout.specs.declared.Name.{Name}
use Rattle.lxr_graph.specs.State.{Graph, object_at, refs_of}
use Rattle.lxr_model.specs.References.{occurrences, references_from}

pub from_more : (g : Graph) (us : List Name) (i : ℕ) (d o : Name) → i < length us
    → references_from g (drop i us) o ≡ occurrences (refs_of (object_at g (get_or us i d))) o + references_from g (drop (i + 1) us) o
from_more g us i d o h = at_drop_more (λ xs. references_from g xs o) us i d h

pub from_all : (g : Graph) (us : List Name) (i : ℕ) (o : Name) → length us ≤ i → references_from g (drop i us) o ≡ 0
from_all g us i o h = at_drop_all (λ xs. references_from g xs o) us i h

pub from_push : (g : Graph) (us : List Name) (u o : Name)
    → references_from g (us ++ u ∷ []) o ≡ references_from g us o + occurrences (refs_of (object_at g u)) o
from_push g [] u o = omega arith
from_push g (x ∷ us) u o = let e = from_push g us u o in omega (arith, e)
