-- Where objects stand while some are copied, one after another, and what refers to them meanwhile.
use Rattle.std.specs.Prelude.{◌≡◌, ℕ, ◌+◌, ◌≤◌, ◌⊎◌, Option, Some, List, length, slice_get}
use Rattle.lxr_layout.specs.declared.Name.{Name}
use Rattle.lxr_layout.specs.declared.Place.{Place}
use Rattle.lxr_layout.specs.Places.{first_word}
use Rattle.lxr_graph.specs.State.{Object, shape_of}
use Rattle.lxr_image.specs.Tables.{Tables}
use Rattle.lxr_image.specs.Reads.{StandsWhole, granule_of}
use Rattle.lxr_image.specs.Image.{place_word}

-- `at` tells where objects stood before any was copied, `now` where they stand.

-- a word holds the place of what is held: where it stands now, or still where it stood
abbrev pub HoldsEither : (Name → ℕ) → (Name → ℕ) → ℕ → Option Name → Type 0
HoldsEither at now w held = (w ≡ place_word now held) ⊎ (w ≡ place_word at held)

-- an object stands where it stands now; each reference of it holds either place
pub record StandsNow (t : Tables) (blocks : ℕ) (at now : Name → ℕ) (n : Name) (o : Object) : Type 0 where
  pub placed : 1 ≤ now n
  pub whole : StandsWhole t blocks (granule_of (now n)) n (shape_of o)
  pub refs : (i : ℕ) (r : Option Name) → slice_get o.refs i ≡ Some r → HoldsEither at now (t.heap (first_word (now n) + 1 + i)) r
  pub values : (i v : ℕ) → slice_get o.values i ≡ Some v → t.heap (first_word (now n) + 1 + length o.refs + i) ≡ v

-- an object stands at a place, or stood there
abbrev pub IsPlaceOf : (Name → ℕ) → (Name → ℕ) → Name → ℕ → Type 0
IsPlaceOf at now n p = (p ≡ at n) ⊎ (p ≡ now n)

-- each register holds either place of what it is to hold
pub record HoldEither (at now : Name → ℕ) (places : List Place) (held : List (Option Name)) : Type 0 where
  pub as_many : length places ≡ length held
  pub each : (k : ℕ) (p : Place) (r : Option Name) → slice_get places k ≡ Some p → slice_get held k ≡ Some r → HoldsEither at now p.0 r
