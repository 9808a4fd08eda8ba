-- How the image of a graph changes, and what is read of it. Each law is the contract of a function with an empty body.
use Rattle.std.specs.Prelude.{◌≡◌, ℕ, ◌+◌, ◌-◌, ◌*◌, ◌/◌, ◌<◌, ◌≤◌, ◌⊎◌, Option, Some, List, ◌∷◌, IsTrue, if◌then◌else◌, length, slice_get, slice_set}
use Rattle.std.specs.Option.{option_map}
use Rattle.lxr_layout.specs.declared.TheConstants.{GRANULES_IN_BLOCK}
use Rattle.lxr_layout.specs.declared.Name.{Name}
use Rattle.lxr_layout.specs.declared.Place.{Place}
use Rattle.lxr_layout.specs.declared.Shape.{Shape}
use Rattle.lxr_layout.specs.declared.Header.TheVariants as header
use Rattle.lxr_layout.specs.Objects.{FitsShape, header_word, word_count}
use Rattle.lxr_layout.specs.Places.{first_word}
use Rattle.lxr_graph.specs.State.{Object, Graph, next_name, object_at, shape_of, with_new, with_reference, with_value}
use Rattle.lxr_graph.specs.Step.{fresh}
use Rattle.lxr_graph.specs.Names.{has, same_name}
use Rattle.lxr_image.specs.Tables.{Tables, changed}
use Rattle.lxr_image.specs.Reads.{IsName, StartsStandWhole, datum_at, field_at, granule_of, header_at}
use Rattle.lxr_image.specs.Image.{ArePlacesOf, IsImage, StartsAre, granules_of, place_word}

-- the tables with one heap word written
abbrev pub with_heap : Tables → ℕ → ℕ → Tables
with_heap t k v = record t { heap = changed t.heap k v }

-- a word is outside every member's words
abbrev pub IsOutside : (Name → ℕ) → Graph → List Name → ℕ → Type 0
IsOutside at g ms k = (n : Name) (o : Object) → IsTrue (has ms n) → object_at g n ≡ Some o → (k < first_word (at n)) ⊎ (first_word (at n) + word_count (shape_of o) ≤ k)

-- a word outside the members may be written
abbrev pub OutsideKeepsImage : Type 0
OutsideKeepsImage = (t : Tables) (blocks : ℕ) (at : Name → ℕ) (g : Graph) (ms : List Name) (k v : ℕ)
    → IsImage t blocks at g ms → IsOutside at g ms k → IsImage (with_heap t k v) blocks at g ms

-- a place that is stored in a field is a reference of the graph
abbrev pub StoreKeepsImage : Type 0
StoreKeepsImage = (t : Tables) (blocks : ℕ) (at : Name → ℕ) (g : Graph) (ms : List Name) (n : Name) (o : Object) (i : ℕ) (v : Option Name)
    → IsImage t blocks at g ms → IsTrue (has ms n) → object_at g n ≡ Some o → i < length o.refs
    → IsImage (with_heap t (first_word (at n) + 1 + i) (place_word at v)) blocks at (with_reference g n i v (Some o)) ms

-- a value that is put into a data word is a data word of the graph
abbrev pub PutKeepsImage : Type 0
PutKeepsImage = (t : Tables) (blocks : ℕ) (at : Name → ℕ) (g : Graph) (ms : List Name) (n : Name) (o : Object) (i v : ℕ)
    → IsImage t blocks at g ms → IsTrue (has ms n) → object_at g n ≡ Some o → i < length o.values
    → IsImage (with_heap t (first_word (at n) + 1 + length o.refs + i) v) blocks at (with_value g n i v (Some o)) ms

-- room for an object at a place: whole in one block of the heap, and no member reaches into it
pub record IsRoom (blocks : ℕ) (at : Name → ℕ) (g : Graph) (ms : List Name) (p : ℕ) (s : Shape) : Type 0 where
  pub placed : 1 ≤ p
  pub in_heap : granule_of p + word_count s / 2 ≤ GRANULES_IN_BLOCK * blocks
  pub in_block : granule_of p / GRANULES_IN_BLOCK ≡ (granule_of p + word_count s / 2 - 1) / GRANULES_IN_BLOCK
  pub free : (m : Name) (a : Object) → IsTrue (has ms m) → object_at g m ≡ Some a
      → (granule_of (at m) + granules_of a ≤ granule_of p) ⊎ (granule_of p + word_count s / 2 ≤ granule_of (at m))

-- a new object is written at a place: its header, and zeros for its references and data; all other words stay
pub record WritesNew (before after : Tables) (p : ℕ) (n : Name) (s : Shape) : Type 0 where
  pub header : after.heap (first_word p) ≡ header_word n s
  pub zeros : (i : ℕ) → i < s.refs + s.values → after.heap (first_word p + 1 + i) ≡ 0
  pub others : (k : ℕ) → (k < first_word p) ⊎ (first_word p + word_count s ≤ k) → after.heap k ≡ before.heap k

-- no member's reference holds the name
abbrev pub IsUnheld : Graph → List Name → Name → Type 0
IsUnheld g ms n = (m : Name) (a : Object) (i : ℕ) → IsTrue (has ms m) → object_at g m ≡ Some a → slice_get a.refs i ≡ Some (Some n) → ⊥

-- the map of places with a name placed
abbrev pub placed : (Name → ℕ) → Name → ℕ → Name → ℕ
placed at n p m = if same_name m n then p else at m

-- a new object that is written on free room joins the graph and the members
abbrev pub NewKeepsImage : Type 0
NewKeepsImage = (t u : Tables) (blocks : ℕ) (at : Name → ℕ) (g : Graph) (ms : List Name) (thread : ℕ) (s : Shape) (p : ℕ)
    → IsImage t blocks at g ms → thread < length g → FitsShape s → IsName (next_name g thread) → IsUnheld g ms (next_name g thread)
    → IsRoom blocks at g ms p s → WritesNew t u p (next_name g thread) s
    → IsImage u blocks (placed at (next_name g thread) p) (with_new g thread (fresh s)) (next_name g thread ∷ ms)

-- a register that gets a place holds the name there
abbrev pub RegisterKeepsPlaces : Type 0
RegisterKeepsPlaces = (at : Name → ℕ) (places : List Place) (held : List (Option Name)) (i : ℕ) (p : Place) (v : Option Name)
    → ArePlacesOf at places held → p.0 ≡ place_word at v → ArePlacesOf at (slice_set places i p) (slice_set held i v)

-- what is read of an unreclaimed object is what the graph says of it
pub record IsReadOff (t : Tables) (p : ℕ) (at : Name → ℕ) (n : Name) (o : Object) : Type 0 where
  pub header : header_at t p ≡ Some (header.Object n (shape_of o))
  pub fields : (i : ℕ) → field_at t p i ≡ option_map (place_word at) (slice_get o.refs i)
  pub data_words : (i : ℕ) → datum_at t p i ≡ slice_get o.values i

-- the objects at start bits are read off the tables
abbrev pub ImageIsRead : Type 0
ImageIsRead = (t : Tables) (blocks : ℕ) (at : Name → ℕ) (g : Graph) (us ms : List Name) (n : Name) (o : Object)
    → IsImage t blocks at g ms → StartsAre t at us → IsTrue (has us n) → IsTrue (has ms n) → object_at g n ≡ Some o → IsReadOff t (at n) at n o

-- each start bit stands at the header of a whole object
abbrev pub ImageStandsWhole : Type 0
ImageStandsWhole = (t : Tables) (blocks : ℕ) (at : Name → ℕ) (g : Graph) (us ms : List Name)
    → IsImage t blocks at g ms → StartsAre t at us → ((n : Name) → IsTrue (has us n) → IsTrue (has ms n)) → StartsStandWhole t blocks
