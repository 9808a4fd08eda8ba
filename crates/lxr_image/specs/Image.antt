-- When tables are the image of an object graph.
use Rattle.std.specs.Prelude.{◌≡◌, ℕ, ◌+◌, ◌/◌, ◌≤◌, ◌⊎◌, false, Option, Some, None, List, [], ◌∷◌, IsTrue, length, slice_get, map}
use Rattle.lxr_layout.specs.declared.Name.{Name}
use Rattle.lxr_layout.specs.declared.Place.{Place}
use Rattle.lxr_layout.specs.Objects.{word_count}
use Rattle.lxr_layout.specs.Places.{first_word}
use Rattle.lxr_graph.specs.State.{Object, Graph, object_at, opening, shape_of, world_name}
use Rattle.lxr_graph.specs.Names.{has, same_name}
use Rattle.lxr_image.specs.declared.space.Space.{Space}
use Rattle.lxr_image.specs.Tables.{Tables}
use Rattle.lxr_image.specs.Spaces.{tables_of}
use Rattle.lxr_image.specs.Reads.{StandsWhole, granule_of}

-- A map of places gives each name the one place where its object begins.

-- the word of a reference: the place of the object that it holds, and 0 for nil
abbrev pub place_word : (Name → ℕ) → Option Name → ℕ
place_word at None = 0
place_word at (Some n) = at n

-- how many granules an object takes; a granule has two words
abbrev pub granules_of : Object → ℕ
granules_of o = word_count (shape_of o) / 2

-- an object stands at its place: its header, whole in one block, then the places of its references, then its data
pub record Stands (t : Tables) (blocks : ℕ) (at : Name → ℕ) (n : Name) (o : Object) : Type 0 where
  pub placed : 1 ≤ at n
  pub whole : StandsWhole t blocks (granule_of (at n)) n (shape_of o)
  pub refs : (i : ℕ) (r : Option Name) → slice_get o.refs i ≡ Some r → t.heap (first_word (at n) + 1 + i) ≡ place_word at r
  pub values : (i v : ℕ) → slice_get o.values i ≡ Some v → t.heap (first_word (at n) + 1 + length o.refs + i) ≡ v

-- two objects share no granule
abbrev pub AreApart : (Name → ℕ) → Name → Object → Name → Object → Type 0
AreApart at m a n b = (granule_of (at m) + granules_of a ≤ granule_of (at n)) ⊎ (granule_of (at n) + granules_of b ≤ granule_of (at m))

-- The tables are the image of these names' objects: each is in the graph and stands at its place, and no two overlap.
pub record IsImage (t : Tables) (blocks : ℕ) (at : Name → ℕ) (g : Graph) (ms : List Name) : Type 0 where
  pub stands : (n : Name) → IsTrue (has ms n) → (o : Object) × (object_at g n ≡ Some o) × Stands t blocks at n o
  pub apart : (m n : Name) (a b : Object) → IsTrue (has ms m) → IsTrue (has ms n) → same_name m n ≡ false → object_at g m ≡ Some a → object_at g n ≡ Some b → AreApart at m a n b

-- Start bits stand exactly at the places of these names, so their places and names are read off the tables.
pub record StartsAre (t : Tables) (at : Name → ℕ) (us : List Name) : Type 0 where
  pub each : (n : Name) → IsTrue (has us n) → IsTrue (t.starts (granule_of (at n)))
  pub only : (k : ℕ) → IsTrue (t.starts k) → (n : Name) × IsTrue (has us n) × (granule_of (at n) ≡ k)

-- places are those of what registers hold
abbrev pub ArePlacesOf : (Name → ℕ) → List Place → List (Option Name) → Type 0
ArePlacesOf at places held = map (λ p. p.0) places ≡ map (place_word at) held

-- the map of places of an opened space, where the world alone has one
abbrev pub opening_at : Name → ℕ
opening_at n = 1

-- the space is the image of the opening state, and the world is its one unreclaimed object
pub record IsOpeningImage (s : Space) : Type 0 where
  pub image : IsImage (tables_of s) s.limits.blocks opening_at (opening s.limits.threads).graph (world_name ∷ [])
  pub starts : StartsAre (tables_of s) opening_at (world_name ∷ [])
  pub registers : ArePlacesOf opening_at s.registers.items (opening s.limits.threads).registers
  pub deferred : ArePlacesOf opening_at s.deferred.items (opening s.limits.threads).registers
