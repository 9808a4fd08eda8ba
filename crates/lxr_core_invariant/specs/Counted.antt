-- Counts and pending decrements: an unreclaimed object's count is the references to it at the last pause, but for those of what is
-- done, and each decrement of it that is yet to be made, be it in the list or in a decrementer's hand. The state at the last pause, the
-- unreclaimed and the stuck names and the places of their objects stay through an epoch, so they are those of its beginning.
use Rattle.std.specs.Prelude.{◌≡◌, ℕ, ◌+◌, ◌*◌, ◌^◌, ◌<◌, ◌≤◌, ⊤, true, false, nat_eq, nat_lt, Option, Some, None, List, [], ◌∷◌, IsTrue, length, slice_get, if◌then◌else◌}
use Rattle.lxr_layout.specs.declared.Name.{Name}
use Rattle.lxr_layout.specs.declared.TheConstants.{DECREMENT_COUNT, DECREMENT_CURSOR, GRANULES_IN_BLOCK, STUCK}
use Rattle.lxr_graph.specs.Names.{has}
use Rattle.lxr_graph.specs.State.{object_at, refs_of, world_name}
use Rattle.lxr_image.specs.Tables.{Tables}
use Rattle.lxr_image.specs.Reads.{granule_of}
use Rattle.lxr_model.specs.Dead.{Dead}
use Rattle.lxr_model.specs.Moments.{Moment}
use Rattle.lxr_model.specs.References.{references}
use Rattle.lxr_invariant.specs.Counting.{count_at, is_done, occurrences_from, undone, waiting_at}
use Rattle.lxr_core_access.specs.Decrementers.{Decrementing, Handling, Entry, References, AsksCount, AsksStart, Claims, ReadsHeader, AsksTracing, ReadsReference, MakesGray, AsksLowered, Lowers, AsksNumber, Draws, ReadsEntry}
use Rattle.lxr_core_invariant.specs.EpochStates.{Beginning, EpochState, limits_of}

-- ---- what a decrementer has in hand

-- the first of these names whose object stands at a place; the world's name, where none does
abbrev pub name_at : (Name → ℕ) → List Name → ℕ → Name
name_at at [] place = world_name
name_at at (n ∷ ns) place = if nat_eq (at n) place then n else name_at at ns place

-- the references that the object at a place had at the last pause
abbrev pub references_at : Moment → (Name → ℕ) → ℕ → List (Option Name)
references_at m at place = refs_of (object_at m.last.graph (name_at at m.unreclaimed place))

-- one where a place is that of a name's object
abbrev pub one_at : (Name → ℕ) → ℕ → Name → ℕ
one_at at place o = if nat_eq place (at o) then 1 else 0

-- how often a dead object that is being handled refers to a name by the references that are yet to be reached
abbrev pub unreached : Moment → (Name → ℕ) → Handling → Name → ℕ
unreached m at Entry o = 0
unreached m at (References place refs next traced) o = occurrences_from (references_at m at place) next o

-- how many decrements of a name a decrementer has in hand: those that it has yet to make of what it has drawn, and of what it handles
abbrev pub in_hand : Tables → Moment → (Name → ℕ) → Decrementing → Name → ℕ
in_hand t m at (ReadsHeader place) o = occurrences_from (references_at m at place) 0 o
in_hand t m at (AsksTracing place refs) o = occurrences_from (references_at m at place) 0 o
in_hand t m at (ReadsReference place refs index traced) o = occurrences_from (references_at m at place) index o
in_hand t m at (MakesGray place refs index referent) o = occurrences_from (references_at m at place) index o
in_hand t m at (AsksLowered referent handling) o = one_at at referent o + unreached m at handling o
in_hand t m at (Lowers referent handling) o = one_at at referent o + unreached m at handling o
in_hand t m at (ReadsEntry number) o = one_at at (t.decs number) o
in_hand t m at _ o = 0

-- how many all decrementers have in hand
abbrev pub in_hands : Tables → Moment → (Name → ℕ) → List Decrementing → Name → ℕ
in_hands t m at [] o = 0
in_hands t m at (d ∷ ds) o = in_hand t m at d o + in_hands t m at ds o

-- the place of the dead object that a decrementer handles
abbrev pub place_handled : Handling → Option ℕ
place_handled Entry = None
place_handled (References place refs next traced) = Some place

abbrev pub handled_by : Decrementing → Option ℕ
handled_by (ReadsHeader place) = Some place
handled_by (AsksTracing place refs) = Some place
handled_by (ReadsReference place refs index traced) = Some place
handled_by (MakesGray place refs index referent) = Some place
handled_by (AsksLowered referent handling) = place_handled handling
handled_by (Lowers referent handling) = place_handled handling
handled_by _ = None

-- ---- what a decrementer knows

-- a place of the heap
abbrev pub IsInHeap : ℕ → ℕ → Type 0
IsInHeap blocks place = (1 ≤ place) × (place ≤ GRANULES_IN_BLOCK * blocks)

-- the object of an unreclaimed name stands at a place
pub record StandsAt (m : Moment) (at : Name → ℕ) (place : ℕ) : Type 0 where
  pub name : Name
  pub member : IsTrue (has m.unreclaimed name)
  pub stands : place ≡ at name

-- the object of an unreclaimed name at a place is done
pub record IsDoneAt (t : Tables) (m : Moment) (at : Name → ℕ) (place : ℕ) : Type 0 where
  pub name : Name
  pub member : IsTrue (has m.unreclaimed name)
  pub stands : place ≡ at name
  pub done : IsTrue (is_done t at name)

-- it is done, and has so many references
pub record IsHandledAt (t : Tables) (m : Moment) (at : Name → ℕ) (place refs : ℕ) : Type 0 where
  pub done : IsDoneAt t m at place
  pub refs_are : refs ≡ length (references_at m at place)

-- the object at a place has no count left
pub record IsUncountedAt (t : Tables) (m : Moment) (at : Name → ℕ) (place : ℕ) : Type 0 where
  pub stands : StandsAt m at place
  pub zero : t.counts (granule_of place) ≡ 0

-- an unreclaimed object that isn't stuck stands at a place
pub record IsLooseAt (m : Moment) (at : Name → ℕ) (place : ℕ) : Type 0 where
  pub name : Name
  pub member : IsTrue (has m.unreclaimed name)
  pub stands : place ≡ at name
  pub unstuck : has m.stuck name ≡ false

-- a reference of the object at a place, of an index, held at the last pause what stands at another place
pub record HeldAt (m : Moment) (at : Name → ℕ) (place index referent : ℕ) : Type 0 where
  pub held : Name
  pub member : IsTrue (has m.unreclaimed held)
  pub reference : slice_get (references_at m at place) index ≡ Some (Some held)
  pub stands : referent ≡ at held

-- what is known of the dead object whose references are handled; behind the last one the unit is through
abbrev pub KnowsHandling : Tables → Moment → (Name → ℕ) → Handling → Type 0
KnowsHandling t m at Entry = ⊤
KnowsHandling t m at (References place refs next traced) = IsHandledAt t m at place refs × (next ≤ refs)

-- what a decrementer knows, by what it is about to do
abbrev pub KnowsCounts : ℕ → Tables → Moment → (Name → ℕ) → Decrementing → Type 0
KnowsCounts blocks t m at (AsksCount place) = IsInHeap blocks place
KnowsCounts blocks t m at (AsksStart place uncounted) = IsInHeap blocks place × (uncounted ≡ true → t.counts (granule_of place) ≡ 0)
KnowsCounts blocks t m at (Claims place) = IsUncountedAt t m at place
KnowsCounts blocks t m at (ReadsHeader place) = IsDoneAt t m at place
KnowsCounts blocks t m at (AsksTracing place refs) = IsHandledAt t m at place refs
KnowsCounts blocks t m at (ReadsReference place refs index traced) = IsHandledAt t m at place refs × (index < refs)
KnowsCounts blocks t m at (MakesGray place refs index referent) = IsHandledAt t m at place refs × HeldAt m at place index referent
KnowsCounts blocks t m at (AsksLowered referent handling) = StandsAt m at referent × KnowsHandling t m at handling
KnowsCounts blocks t m at (Lowers referent handling) = IsLooseAt m at referent × KnowsHandling t m at handling
KnowsCounts blocks t m at (Draws count) = count ≡ t.cursors DECREMENT_COUNT
KnowsCounts blocks t m at (ReadsEntry number) = number < t.cursors DECREMENT_COUNT
KnowsCounts blocks t m at _ = ⊤

-- ---- the part

-- it has seen that the cursor of decrements is below their number, and has yet to draw
abbrev pub draws_soon : ℕ → Decrementing → ℕ
draws_soon count (AsksNumber cursor) = if nat_lt cursor count then 1 else 0
draws_soon count (Draws seen) = 1
draws_soon count _ = 0

-- how many have
abbrev pub soon_drawn : ℕ → List Decrementing → ℕ
soon_drawn count [] = 0
soon_drawn count (d ∷ ds) = draws_soon count d + soon_drawn count ds

-- Counts and pending decrements, for the moment of the last pause and the places of its unreclaimed objects.
pub record AreCounted (blocks : ℕ) (t : Tables) (ds : List Decrementing) (m : Moment) (at : Name → ℕ) : Type 0 where
  -- a stuck object's count is STUCK, and that of another is below it
  pub stuck : (n : Name) → IsTrue (has m.unreclaimed n) → IsTrue (has m.stuck n) → count_at t at n ≡ STUCK
  pub below : (n : Name) → IsTrue (has m.unreclaimed n) → has m.stuck n ≡ false → count_at t at n < STUCK
  -- that of another is its references, without those of what is done, and the decrements of it that wait or are in hand
  pub exact : (n : Name) → IsTrue (has m.unreclaimed n) → has m.stuck n ≡ false
      → count_at t at n ≡ references m.last (undone t at m.unreclaimed) n + waiting_at t (at n) + in_hands t m at ds n
  -- what is done has count 0, and is dead: nothing holds it up but what is done
  pub done : (n : Name) → IsTrue (has m.unreclaimed n) → IsTrue (is_done t at n) → count_at t at n ≡ 0
  pub dead : (n : Name) → IsTrue (has m.unreclaimed n) → IsTrue (is_done t at n) → Dead m.last m.unreclaimed m.stuck n
  -- what is done has one handler, or is handled whole
  pub one_handler : (i j : ℕ) (d e : Decrementing) (place : ℕ) → slice_get ds i ≡ Some d → slice_get ds j ≡ Some e
      → handled_by d ≡ Some place → handled_by e ≡ Some place → i ≡ j
  -- numbers that were drawn from the cursor of decrements are below it, and differ
  pub drew : (i number : ℕ) → slice_get ds i ≡ Some (ReadsEntry number) → number < t.cursors DECREMENT_CURSOR
  pub one_drawer : (i j number : ℕ) → slice_get ds i ≡ Some (ReadsEntry number) → slice_get ds j ≡ Some (ReadsEntry number) → i ≡ j
  -- what each decrementer has learned is so
  pub knows : (i : ℕ) (d : Decrementing) → slice_get ds i ≡ Some d → KnowsCounts blocks t m at d
  -- each draws at most once past the end of the list before it sees the end; no list of actors is longer than the memory
  pub few : length ds < 2 ^ 63
  pub drawn : t.cursors DECREMENT_CURSOR + soon_drawn (t.cursors DECREMENT_COUNT) ds ≤ t.cursors DECREMENT_COUNT + length ds

abbrev pub AreCountedIn : Beginning → EpochState → Type 0
AreCountedIn b s = AreCounted (limits_of b).blocks s.tables s.decrementers b.abstract_state.moment b.abstract_state.at
