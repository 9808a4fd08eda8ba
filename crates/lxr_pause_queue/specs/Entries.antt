-- What is told of the objects of a heap, granule after granule.
use Rattle.std.specs.Prelude.{ℕ, zero, suc, ◌*◌, nat_lt, Option, Some, None, List, [], ◌∷◌, ◌++◌, if◌then◌else◌}
use Rattle.lxr_layout.specs.declared.Name.{Name}
use Rattle.lxr_layout.specs.declared.Header.{Header}
use Rattle.lxr_layout.specs.declared.Header.TheVariants.{Object, Moved}
use Rattle.lxr_layout.specs.declared.TheConstants.{STUCK}
use Rattle.lxr_layout.specs.Objects.{header_of}
use Rattle.lxr_graph.specs.declared.report.Count.{Count}
use Rattle.lxr_image.specs.declared.space.Space.{Space}
use Rattle.lxr_image.specs.Tables.{Tables}
use Rattle.lxr_invariant.specs.Counting.{count_at}

-- the space with these counts told in its report
abbrev pub with_told : Space → List Count → Space
with_told s told = record s { report = record s.report { told = record s.report.told { items = told } } }

-- a count as a report tells it: none where it is stuck
abbrev pub count_told : ℕ → Option ℕ
count_told count = if nat_lt count STUCK then Some count else None

-- the entry of a name: the name, and what the table of counts says of its object, none where it is stuck
abbrev pub standing_entry : Tables → (Name → ℕ) → Name → Count
standing_entry t at n = record { name = n; count = count_told (count_at t at n) }

-- what is told of an object with this count and header; the header of a moved object has no name
abbrev pub entry_in : ℕ → Header → List Count
entry_in count (Object n shape) = record { name = n; count = count_told count } ∷ []
entry_in count (Moved place) = []

-- what is told of the object that begins at a granule
abbrev pub entry_at : Tables → ℕ → List Count
entry_at t g = entry_in (t.counts g) (header_of (t.heap (2 * g)))

-- what is told of the unreclaimed objects that begin below a granule, as they stand in the heap
unfoldable pub entries_below : Tables → ℕ → List Count
entries_below t zero = []
entries_below t (suc g) = entries_below t g ++ (if t.starts g then entry_at t g else [])
