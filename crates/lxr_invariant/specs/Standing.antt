-- Where objects stand, and the bits that tell of them.
use Rattle.std.specs.Prelude.{◌≡◌, ℕ, ◌<◌, ◌↔◌, false, None, List, IsTrue, length, map, slice_index_or}
use Rattle.std.specs.List.Sorted.{IsPermutation}
use Rattle.lxr_layout.specs.declared.Name.{Name}
use Rattle.lxr_layout.specs.declared.LogEntry.{LogEntry}
use Rattle.lxr_layout.specs.declared.Place.{Place}
use Rattle.lxr_layout.specs.Places.{field_word}
use Rattle.lxr_graph.specs.Names.{has}
use Rattle.lxr_graph.specs.State.{object_at, refs_of, world_name}
use Rattle.lxr_image.specs.declared.space.Space.{Space}
use Rattle.lxr_image.specs.Tables.{Tables}
use Rattle.lxr_image.specs.Spaces.{tables_of}
use Rattle.lxr_image.specs.Image.{ArePlacesOf, IsImage, StartsAre, place_word}
use Rattle.lxr_model.specs.Moments.{Field, Moment}
use Rattle.lxr_model_counting.specs.Distinct.{has_field}
use Rattle.lxr_invariant.specs.AbstractState.{members}

-- the place of a name's object
abbrev pub place_of : (Name → ℕ) → Name → Place
place_of at n = record { 0 = at n }

-- The heap is the image of the state now with all members. Registers hold the places of what they hold now, deferred
-- registers those of what they held at the last pause. The world stands at the first place.
pub record IsImaged (s : Space) (m : Moment) (at : Name → ℕ) : Type 0 where
  pub image : IsImage (tables_of s) s.limits.blocks at m.state.graph (members m)
  pub registers : ArePlacesOf at s.registers.items m.state.registers
  pub deferred : ArePlacesOf at s.deferred.items m.last.registers
  pub world : at world_name ≡ 1

-- the heap word of a reference of an object
abbrev pub word_of_field : (Name → ℕ) → Name → ℕ → ℕ
word_of_field at n i = field_word (at n) i

-- a heap word is a reference of one of these objects that wasn't written since the last pause
pub record IsUnwrittenAt (m : Moment) (at : Name → ℕ) (us : List Name) (w : ℕ) (n : Name) (i : ℕ) : Type 0 where
  pub member : IsTrue (has us n)
  pub index : i < length (refs_of (object_at m.state.graph n))
  pub unwritten : has_field m.written (n, i) ≡ false
  pub word : w ≡ word_of_field at n i

-- a heap word is such a reference of some name
abbrev pub IsUnwritten : Moment → (Name → ℕ) → List Name → ℕ → Type 0
IsUnwritten m at us w = (n : Name) × (i : ℕ) × IsUnwrittenAt m at us w n i

-- The bits that tell of these names' objects.
pub record HasBits (t : Tables) (m : Moment) (at : Name → ℕ) (us : List Name) : Type 0 where
  -- start bits stand exactly at their places
  pub starts : StartsAre t at us
  -- marks, grays and dones stand only at start bits
  pub marks : (k : ℕ) → IsTrue (t.marks k) → IsTrue (t.starts k)
  pub grays : (k : ℕ) → IsTrue (t.grays k) → IsTrue (t.starts k)
  pub dones : (k : ℕ) → IsTrue (t.dones k) → IsTrue (t.starts k)
  -- unlogged bits stand exactly at those of their references that weren't written since the last pause
  pub unlogged : (w : ℕ) → IsTrue (t.unlogged w) ↔ IsUnwritten m at us w

-- the entry of a field in a log: its place and index, and the place of what it held at the last pause
abbrev pub entry_of : Moment → (Name → ℕ) → Field → LogEntry
entry_of m at field = record {
  place = record { 0 = at field.0 };
  index = field.1;
  old = record { 0 = place_word at (slice_index_or (refs_of (object_at m.last.graph field.0)) field.1 None) };
}

-- the logs have one entry for each field that was written since the last pause, in some order
abbrev pub AreLogged : Moment → (Name → ℕ) → List LogEntry → Type 0
AreLogged m at entries = IsPermutation (map (entry_of m at) m.written) entries
