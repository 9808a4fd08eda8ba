-- What is read of the objects that stand in the tables.
use Rattle.std.specs.Prelude.{◌≡◌, ℕ, ◌+◌, ◌-◌, ◌*◌, ◌/◌, ◌^◌, ◌<◌, ◌≤◌, nat_eq, nat_le, nat_lt, ◌&&◌, Bool, Option, Some, None, IsTrue, if◌then◌else◌}
use Rattle.lxr_layout.specs.declared.TheConstants.{GRANULES_IN_BLOCK, TRACING_WORD}
use Rattle.lxr_layout.specs.declared.Name.{Name}
use Rattle.lxr_layout.specs.declared.Shape.{Shape}
use Rattle.lxr_layout.specs.declared.Header.{Header}
use Rattle.lxr_layout.specs.declared.Header.TheVariants.{Object, Moved}
use Rattle.lxr_layout.specs.Objects.{FitsShape, header_of, header_word, word_count}
use Rattle.lxr_layout.specs.Places.{first_word}
pub use Rattle.lxr_layout.specs.Places.{granule_of}
use Rattle.lxr_image.specs.Tables.{Tables}

-- a trace runs
abbrev pub is_tracing : Tables → Bool
is_tracing t = nat_eq (t.cursors TRACING_WORD) 1

-- what the header word at a place says, where a start bit stands there
abbrev pub header_at : Tables → ℕ → Option Header
header_at t p = if nat_le 1 p && t.starts (granule_of p) then Some (header_of (t.heap (first_word p))) else None

-- reference i of the object at p, by its header
abbrev pub field_in : Tables → ℕ → ℕ → Option Header → Option ℕ
field_in t p i (Some (Object n s)) = if nat_lt i s.refs then Some (t.heap (first_word p + 1 + i)) else None
field_in t p i (Some (Moved q)) = None
field_in t p i None = None

abbrev pub field_at : Tables → ℕ → ℕ → Option ℕ
field_at t p i = field_in t p i (header_at t p)

-- data word i of the object at p, by its header
abbrev pub datum_in : Tables → ℕ → ℕ → Option Header → Option ℕ
datum_in t p i (Some (Object n s)) = if nat_lt i s.values then Some (t.heap (first_word p + 1 + s.refs + i)) else None
datum_in t p i (Some (Moved q)) = None
datum_in t p i None = None

abbrev pub datum_at : Tables → ℕ → ℕ → Option ℕ
datum_at t p i = datum_in t p i (header_at t p)

-- how many references a header tells: none where the object was moved
abbrev pub slots_of : Header → ℕ
slots_of (Object n s) = s.refs
slots_of (Moved q) = 0

-- a name that a header can say
pub record IsName (n : Name) : Type 0 where
  pub thread : n.thread < 2 ^ 8
  pub serial : n.serial < 2 ^ 32

-- at a granule stands the header of an object that lies whole in one block of the heap
pub record StandsWhole (t : Tables) (blocks g : ℕ) (n : Name) (s : Shape) : Type 0 where
  pub name : IsName n
  pub shape : FitsShape s
  pub header : t.heap (2 * g) ≡ header_word n s
  pub in_heap : g + word_count s / 2 ≤ GRANULES_IN_BLOCK * blocks
  pub in_block : g / GRANULES_IN_BLOCK ≡ (g + word_count s / 2 - 1) / GRANULES_IN_BLOCK

-- each start bit stands at the header of an object that lies whole in one block
abbrev pub StartsStandWhole : Tables → ℕ → Type 0
StartsStandWhole t blocks = (g : ℕ) → IsTrue (t.starts g) → (n : Name) × (s : Shape) × StandsWhole t blocks g n s
