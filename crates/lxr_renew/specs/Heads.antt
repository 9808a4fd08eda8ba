-- The headers of what is left, under new names.
use Rattle.std.specs.Prelude.{◌≡◌, ◌≢◌, ℕ, ◌<◌, Some, List, ◌∷◌, IsTrue}
use Rattle.lxr_layout.specs.declared.Name.{Name}
use Rattle.lxr_layout.specs.declared.Shape.{Shape}
use Rattle.lxr_layout.specs.Objects.{header_word}
use Rattle.lxr_layout.specs.Places.{first_word}
use Rattle.lxr_graph.specs.Names.{has}
use Rattle.lxr_graph.specs.State.{Object, object_at, shape_of, world_name}
use Rattle.lxr_image.specs.declared.space.Space.{Space}
use Rattle.lxr_image.specs.Reads.{StandsWhole, granule_of}
use Rattle.lxr_image.specs.Spaces.{IsSpace, tables_of}
use Rattle.lxr_invariant.specs.AbstractState.{AbstractState}
use Rattle.lxr_graph.specs.Renewing.{renewed_name}
use Rattle.lxr_large_model.specs.Renewing.{AreCounted}

-- At a granule stands the header of an object under its old name, which is one of those that are counted.
pub record IsHead (s : Space) (granule : ℕ) (ns : List Name) (n : Name) (shape : Shape) : Type 0 where
  pub space : IsSpace s
  pub told : AreCounted s.report.told.items ns
  pub member : IsTrue (has (world_name ∷ ns) n)
  pub whole : StandsWhole (tables_of s) s.limits.blocks granule n shape

-- The headers of all that is left and begins below a granule stand under their new names now, and nothing else has changed.
pub record RenewsHeads (before after : Space) (g : AbstractState) (ns : List Name) (end : ℕ) : Type 0 where
  pub heads : (n : Name) (o : Object) → IsTrue (has g.moment.unreclaimed n) → object_at g.moment.state.graph n ≡ Some o → granule_of (g.at n) < end
      → (tables_of after).heap (first_word (g.at n)) ≡ header_word (renewed_name ns n) (shape_of o)
  pub others : (word : ℕ) → ((n : Name) → IsTrue (has g.moment.unreclaimed n) → granule_of (g.at n) < end → word ≢ first_word (g.at n)) → (tables_of after).heap word ≡ (tables_of before).heap word
  pub tables : tables_of after ≡ record (tables_of before) { heap = (tables_of after).heap }
  pub rest : after ≡ record before { words = after.words }
