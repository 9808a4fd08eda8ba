-- What holds of marks, grays and remembered entries at a safepoint while a trace runs. A marked object counts as scanned, and
-- one that is done as handled.
use Rattle.std.specs.Prelude.{◌≡◌, ℕ, ◌+◌, ◌*◌, ◌/◌, ◌<◌, ◌≤◌, ◌⊎◌, ◌&&◌, ⊤, not, Bool, false, Option, Some, None, List, IsTrue, filter, slice_get}
use Rattle.lxr_invariant.specs.Standing.{word_of_field}
use Rattle.lxr_layout.specs.declared.TheConstants.{GRANULES_IN_BLOCK, REMEMBERED_CURSOR, WORDS_IN_BLOCK, WORDS_IN_LINE}
use Rattle.lxr_layout.specs.declared.limits.Limits.{Limits}
use Rattle.lxr_layout.specs.declared.Name.{Name}
use Rattle.lxr_layout.specs.declared.LogEntry.{LogEntry}
use Rattle.lxr_layout.specs.declared.Place.{Place}
use Rattle.lxr_layout.specs.Places.{first_word}
use Rattle.lxr_layout.specs.Runs.{IsEntry, word_of_entry}
use Rattle.lxr_graph.specs.Names.{IsSetOf, has}
use Rattle.lxr_graph.specs.State.{HasObject, State, object_at, refs_of, world_name}
use Rattle.lxr_image.specs.Tables.{Tables}
use Rattle.lxr_image.specs.Reads.{granule_of}
use Rattle.lxr_blocks.specs.declared.states.BlockState.TheVariants.{Chosen}
use Rattle.lxr_blocks.specs.States.{state_in}
use Rattle.lxr_model.specs.Reachable.{Holds, Reachable, Refers}
use Rattle.lxr_model.specs.References.{reference_slots}
use Rattle.lxr_model.specs.Moments.{Moment, Trace, rememberable}
use Rattle.lxr_model_counting.specs.Following.{IsLive}
pub use Rattle.lxr_model_counting.specs.Garbage.{IsGarbageOf}
use Rattle.lxr_invariant.specs.AbstractState.{AbstractState}
use Rattle.lxr_invariant.specs.Counting.{is_done}

-- the object of a name is marked: a tracer has scanned it
abbrev pub IsMarked : Tables → (Name → ℕ) → Name → Type 0
IsMarked t at n = IsTrue (t.marks (granule_of (at n)))

-- it is gray: found, and to be scanned where it is not marked
abbrev pub IsGray : Tables → (Name → ℕ) → Name → Type 0
IsGray t at n = IsTrue (t.grays (granule_of (at n)))

-- a name was made since the trace began
abbrev pub IsYounger : Moment → Trace → Name → Type 0
IsYounger m trace n = (object_at trace.state.graph n ≡ None) × HasObject m.state.graph n

-- a log has the place of an object as an old value
abbrev pub IsOldValue : List LogEntry → ℕ → Type 0
IsOldValue entries place = (k : ℕ) × (entry : LogEntry) × (slice_get entries k ≡ Some entry) × (entry.old.0 ≡ place)

-- a name of the snapshot is covered: it is gray, marked, reclaimed since, or an old value in a log
abbrev pub IsCovered : Tables → Moment → (Name → ℕ) → List LogEntry → Name → Type 0
IsCovered t m at entries n =
    (has m.unreclaimed n ≡ false)
    ⊎ (IsTrue (has m.unreclaimed n) × IsGray t at n)
    ⊎ (IsTrue (has m.unreclaimed n) × IsMarked t at n)
    ⊎ (IsTrue (has m.unreclaimed n) × IsOldValue entries (at n))

-- reference i of u's object is still to be scanned, and holds what it held when the trace began
pub record IsToBeScanned (t : Tables) (m : Moment) (at : Name → ℕ) (u : Name) (i : ℕ) (v : Name) : Type 0 where
  pub member : IsTrue (has m.unreclaimed u)
  pub unmarked : t.marks (granule_of (at u)) ≡ false
  pub undone : is_done t at u ≡ false
  pub holds : slice_get (refs_of (object_at m.state.graph u)) i ≡ Some (Some v)

-- The snapshot is covered: the world, what registers held when the trace began, and what each reference of a reachable
-- object held then, unless that reference is still to be scanned.
pub record SnapshotIsCovered (t : Tables) (m : Moment) (at : Name → ℕ) (entries : List LogEntry) (trace : Trace) : Type 0 where
  pub world : IsCovered t m at entries world_name
  pub registers : (n : Name) → Holds trace.state n → IsCovered t m at entries n
  pub references : (u v : Name) (i : ℕ) → Reachable trace.state u → slice_get (refs_of (object_at trace.state.graph u)) i ≡ Some (Some v)
      → IsCovered t m at entries v ⊎ IsToBeScanned t m at u i v

-- While a trace runs, a decrementer makes gray what a dead object refers to before it lowers it: so what an object that is done
-- referred to at the last pause is gray.
abbrev pub HandledAreGray : Tables → Moment → (Name → ℕ) → Type 0
HandledAreGray t m at = (u n : Name) → IsTrue (has m.unreclaimed u) → IsTrue (is_done t at u) → Refers m.last.graph u n → IsGray t at n

-- a name belongs to the snapshot or is younger
abbrev pub IsInSnapshot : Moment → Trace → Name → Type 0
IsInSnapshot m trace n = Reachable trace.state n ⊎ IsYounger m trace n

-- garbage of a trace stays: it is unreclaimed, not live, not done, refers to what it referred to, and where it isn't stuck
-- some garbage refers to it
pub record StaysGarbage (t : Tables) (m : Moment) (at : Name → ℕ) (trace : Trace) (n : Name) : Type 0 where
  pub member : IsTrue (has m.unreclaimed n)
  pub dropped : ¬ IsLive m n
  pub undone : is_done t at n ≡ false
  pub references : refs_of (object_at m.state.graph n) ≡ refs_of (object_at trace.state.graph n)
  pub referred : has m.stuck n ≡ false → (u : Name) × IsGarbageOf trace u × Refers trace.state.graph u n

-- A trace stays inside its snapshot: the objects that were reachable when it began, and the younger ones.
pub record MarksStayInside (t : Tables) (m : Moment) (at : Name → ℕ) (trace : Trace) : Type 0 where
  -- what is marked is inside
  pub marks : (n : Name) → IsTrue (has m.unreclaimed n) → IsMarked t at n → IsInSnapshot m trace n
  -- what is gray is inside
  pub grays : (n : Name) → IsTrue (has m.unreclaimed n) → IsGray t at n → IsInSnapshot m trace n
  -- what a decrementer has claimed is inside
  pub dones : (n : Name) → IsTrue (has m.unreclaimed n) → IsTrue (is_done t at n) → IsInSnapshot m trace n
  -- what is unreclaimed was so when the trace began, or is younger and marked
  pub members : (n : Name) → IsTrue (has m.unreclaimed n) → IsTrue (has trace.unreclaimed n) ⊎ (IsYounger m trace n × IsMarked t at n)
  -- no unreclaimed object that is inside refers to garbage of the trace, now or at the last pause
  pub referred : (u n : Name) → IsTrue (has m.unreclaimed u) → IsInSnapshot m trace u → IsGarbageOf trace n
      → ¬ Refers m.last.graph u n × ¬ Refers m.state.graph u n
  -- garbage of the trace stays
  pub garbage : (n : Name) → IsGarbageOf trace n → StaysGarbage t m at trace n

-- the remembered set has overflowed since the trace began: its cursor tells how many entries were drawn
abbrev pub HasOverflowed : Limits → Tables → Type 0
HasOverflowed l t = l.remember < t.cursors REMEMBERED_CURSOR

-- a field has an entry with the reuse counter that its line has now
abbrev pub IsRemembered : Limits → Tables → (Name → ℕ) → Name → ℕ → Type 0
IsRemembered l t at n i = (k : ℕ) × (k < t.cursors REMEMBERED_CURSOR) × (k < l.remember)
    × (t.remembered k ≡ word_of_entry l.blocks (t.reuse (word_of_field at n i / WORDS_IN_LINE)) (record { 0 = at n }) i)

-- an entry of the remembered set is that of a field, whose word is one of the heap
pub record IsEntryWord (l : Limits) (word : ℕ) (c : ℕ) (p : Place) (i : ℕ) : Type 0 where
  pub is : word ≡ word_of_entry l.blocks c p i
  pub entry : IsEntry l.blocks c p i
  pub in_heap : first_word p.0 + 1 + i < WORDS_IN_BLOCK * l.blocks

-- a tracer has scanned the object, or it was promoted since the trace began
abbrev pub IsScanned : Tables → (Name → ℕ) → Trace → Name → Type 0
IsScanned t at trace n = IsMarked t at n ⊎ (has trace.unreclaimed n ≡ false)

-- the object of a name stands in a Chosen block
abbrev pub IsInChosen : Tables → (Name → ℕ) → Name → Type 0
IsInChosen t at n = state_in t (granule_of (at n) / GRANULES_IN_BLOCK) ≡ Chosen

-- the object of a name is unreclaimed, and no tracer has marked it yet
abbrev pub is_unscanned : Tables → Moment → (Name → ℕ) → Name → Bool
is_unscanned t m at n = has m.unreclaimed n && not (t.marks (granule_of (at n)))

-- how many references such objects of a snapshot have: those that are still to be scanned
abbrev pub unscanned_slots : Tables → Moment → (Name → ℕ) → List Name → ℕ
unscanned_slots t m at snapshot = reference_slots m.last.graph (filter (is_unscanned t m at) snapshot)

-- What the remembered set has so far, and how much it may come to.
pub record IsRememberedSoFar (l : Limits) (t : Tables) (m : Moment) (at : Name → ℕ) (trace : Trace) (snapshot : List Name) : Type 0 where
  -- each reference of a scanned or promoted object that points into a Chosen block, and that wasn't written since the last pause, is
  -- remembered, unless the set has overflowed
  pub fields : (n v : Name) (i : ℕ) → IsTrue (has m.unreclaimed n) → IsScanned t at trace n
      → slice_get (refs_of (object_at m.state.graph n)) i ≡ Some (Some v) → IsTrue (t.unlogged (word_of_field at n i))
      → IsInChosen t at v → IsRemembered l t at n i ⊎ HasOverflowed l t
  -- each entry is that of a field of the heap
  pub entries : (k : ℕ) → k < t.cursors REMEMBERED_CURSOR → k < l.remember → (c : ℕ) × (p : Place) × (i : ℕ) × IsEntryWord l (t.remembered k) c p i
  -- all references that are still to be scanned may be remembered too, and then these are still no more than may be
  pub bound : t.cursors REMEMBERED_CURSOR + unscanned_slots t m at snapshot ≤ rememberable trace snapshot

-- how many references a pause adds at most to those that may be remembered: those of all objects that fit into the heap, or those of what it
-- promotes and the stored ones, which the logs of all threads have room for
abbrev pub most_remembered : Limits → ℕ
most_remembered l = WORDS_IN_BLOCK * l.blocks + l.threads * l.log

-- all of this, for the trace that runs and the names of its snapshot
pub record TraceHolds (l : Limits) (t : Tables) (entries : List LogEntry) (g : AbstractState) (trace : Trace) : Type 0 where
  pub snapshot : List Name
  pub reachable : IsSetOf snapshot (Reachable trace.state)
  pub covered : SnapshotIsCovered t g.moment g.at entries trace
  pub inside : MarksStayInside t g.moment g.at trace
  pub handled : HandledAreGray t g.moment g.at
  pub remembered : IsRememberedSoFar l t g.moment g.at trace snapshot
  -- no more than each pause so far may have added
  pub few : rememberable trace snapshot ≤ most_remembered l * (g.moment.number + 1)

-- nothing is asked where none runs
abbrev pub IsTracedBy : Limits → Tables → List LogEntry → AbstractState → Option Trace → Type 0
IsTracedBy l t entries g None = ⊤
IsTracedBy l t entries g (Some trace) = TraceHolds l t entries g trace

-- ---- what a trace is to mark

-- the world, or what a register holds
abbrev pub IsRoot : State → Name → Type 0
IsRoot s n = (n ≡ world_name) ⊎ Holds s n

-- the object of a name is not marked
abbrev pub IsUnmarked : Tables → (Name → ℕ) → Name → Type 0
IsUnmarked t at n = t.marks (granule_of (at n)) ≡ false

-- The least set of unreclaimed names that are not marked yet and are gray, or that one of the set refers to now: what is left for a
-- trace to mark.
pub data IsToBeMarked (t : Tables) (m : Moment) (at : Name → ℕ) : Name → Type 0 where
  gray : (n : Name) → IsTrue (has m.unreclaimed n) → IsUnmarked t at n → IsGray t at n → IsToBeMarked t m at n
  referred : (u n : Name) → IsToBeMarked t m at u → Refers m.state.graph u n → IsUnmarked t at n → IsToBeMarked t m at n
