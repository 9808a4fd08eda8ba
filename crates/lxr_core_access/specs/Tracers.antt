-- What tracers do beside the mutators, one access after another, as in LXR (Zhao, Blackburn and McKinley, 2022). Each step is one
-- access, and where it leads depends on the entry that the access finds.
use Rattle.std.specs.Prelude.{◌≡◌, ◌≢◌, ℕ, ◌+◌, ◌/◌, ◌*◌, ◌<◌, ◌≤◌, Bool, true, false, nat_lt, if◌then◌else◌, Option, Some, None}
use Rattle.lxr_layout.specs.declared.Header.TheVariants as header
use Rattle.lxr_layout.specs.declared.Name.{Name}
use Rattle.lxr_layout.specs.declared.Shape.{Shape}
use Rattle.lxr_layout.specs.declared.TheConstants.{GRANULES_IN_BLOCK, REMEMBERED_CURSOR, TRACING_WORD, WORDS_IN_LINE}
use Rattle.lxr_layout.specs.Objects.{header_of}
use Rattle.lxr_layout.specs.Places.{field_word, first_word}
use Rattle.lxr_layout.specs.Runs.{word_of_entry}
use Rattle.lxr_image.specs.Tables.{Tables}
use Rattle.lxr_image.specs.Reads.{granule_of}
use Rattle.lxr_core_access.specs.declared.Access.{Access}
use Rattle.lxr_core_access.specs.declared.Access.TheVariants as access
use Rattle.lxr_core_access.specs.declared.TableEntry.TheVariants as table_entry

-- what a tracer is about to do; `index` is the reference of the object at `place` that it is at
pub data Tracing : Type 0 where
  -- it is between two units
  Rests : Tracing
  -- it asks whether the object at a place of its pocket needs work: it looks at the gray bit, and then, whatever that was, at the start bit
  AsksGray : (place : ℕ) → Tracing
  AsksObject : (place : ℕ) → (gray : Bool) → Tracing
  -- it marks the object, and reads its header
  Marks : (place : ℕ) → Tracing
  ReadsShape : (place : ℕ) → Tracing
  -- it scans a reference: reads it, asks whether an unreclaimed object is there, makes that gray, and looks at its block
  Scans : (place refs index : ℕ) → Tracing
  AsksReferent : (place refs index referent : ℕ) → Tracing
  GraysReferent : (place refs index referent : ℕ) → Tracing
  AsksBlock : (place refs index referent : ℕ) → Tracing
  -- the block is Chosen: it reads the reuse counter of the field's line, draws a number, and enters the field
  ReadsReuse : (place refs index : ℕ) → Tracing
  DrawsNumber : (place refs index counter : ℕ) → Tracing
  Enters : (place refs index counter number : ℕ) → Tracing
  -- no place of its pocket needs work: it looks at the tracing word
  FindsNothing : Tracing

-- the access of its next step in a heap of so many blocks; between two units none is told, since its pocket says which it is
abbrev pub tracer_access : ℕ → Tracing → Option Access
tracer_access blocks Rests = None
tracer_access blocks (AsksGray place) = Some (access.Look (table_entry.Gray (granule_of place)))
tracer_access blocks (AsksObject place gray) = Some (access.Look (table_entry.Start (granule_of place)))
tracer_access blocks (Marks place) = Some (access.SetMark (granule_of place))
tracer_access blocks (ReadsShape place) = Some (access.Look (table_entry.Heap (first_word place)))
tracer_access blocks (Scans place refs index) = Some (access.Look (table_entry.Heap (field_word place index)))
tracer_access blocks (AsksReferent place refs index referent) = Some (access.Look (table_entry.Start (granule_of referent)))
tracer_access blocks (GraysReferent place refs index referent) = Some (access.SetGray (granule_of referent))
tracer_access blocks (AsksBlock place refs index referent) = Some (access.Look (table_entry.State (granule_of referent / GRANULES_IN_BLOCK)))
tracer_access blocks (ReadsReuse place refs index) = Some (access.Look (table_entry.Reuse (field_word place index / WORDS_IN_LINE)))
tracer_access blocks (DrawsNumber place refs index counter) = Some (access.Draw REMEMBERED_CURSOR)
tracer_access blocks (Enters place refs index counter number) = Some (access.PutRemembered number (word_of_entry blocks counter (record { 0 = place }) index))
tracer_access blocks FindsNothing = Some (access.Look (table_entry.Cursor TRACING_WORD))

-- what comes once a reference is scanned, or the object's shape was read: the reference of this index, or the end of the unit
abbrev pub scanned_next : (place refs index : ℕ) → Tracing
scanned_next place refs index = if nat_lt index refs then Scans place refs index else Rests

-- What it tries first in a unit, and next where a place needs no work: a place of its pocket, which is one of the heap; with an
-- empty pocket it finds nothing.
pub data IsTry (blocks : ℕ) : Tracing → Type 0 where
  pocket : (place : ℕ) → 1 ≤ place → place ≤ GRANULES_IN_BLOCK * blocks → IsTry blocks (AsksGray place)
  nothing : IsTry blocks FindsNothing

-- Where a step leads, by what the tables have at its entry, in a heap of so many blocks; `remember` is the room of the
-- remembered set, and 3 the number of the state Chosen. A place that needs no work is given up for another of the pocket; an
-- object that is made gray goes into the pocket while there is room.
pub data TracerGoes (blocks remember : ℕ) (t : Tables) : Tracing → Tracing → Type 0 where
  asks_gray : (place : ℕ) → TracerGoes blocks remember t (AsksGray place) (AsksObject place (t.grays (granule_of place)))
  is_white : (place : ℕ) (next : Tracing) → IsTry blocks next → TracerGoes blocks remember t (AsksObject place false) next
  is_none : (place : ℕ) (gray : Bool) (next : Tracing) → t.starts (granule_of place) ≡ false → IsTry blocks next → TracerGoes blocks remember t (AsksObject place gray) next
  is_object : (place : ℕ) → t.starts (granule_of place) ≡ true → TracerGoes blocks remember t (AsksObject place true) (Marks place)
  marked_before : (place : ℕ) (next : Tracing) → t.marks (granule_of place) ≡ true → IsTry blocks next → TracerGoes blocks remember t (Marks place) next
  marks : (place : ℕ) → t.marks (granule_of place) ≡ false → TracerGoes blocks remember t (Marks place) (ReadsShape place)
  reads_shape : (place : ℕ) (n : Name) (s : Shape) → header_of (t.heap (first_word place)) ≡ header.Object n s
      → TracerGoes blocks remember t (ReadsShape place) (scanned_next place s.refs 0)
  scans_nil : (place refs index : ℕ) → t.heap (field_word place index) ≡ 0 → TracerGoes blocks remember t (Scans place refs index) (scanned_next place refs (index + 1))
  scans : (place refs index : ℕ) → t.heap (field_word place index) ≢ 0
      → TracerGoes blocks remember t (Scans place refs index) (AsksReferent place refs index (t.heap (field_word place index)))
  finds_young : (place refs index referent : ℕ) → t.starts (granule_of referent) ≡ false
      → TracerGoes blocks remember t (AsksReferent place refs index referent) (scanned_next place refs (index + 1))
  finds_object : (place refs index referent : ℕ) → t.starts (granule_of referent) ≡ true
      → TracerGoes blocks remember t (AsksReferent place refs index referent) (GraysReferent place refs index referent)
  grays : (place refs index referent : ℕ) → TracerGoes blocks remember t (GraysReferent place refs index referent) (AsksBlock place refs index referent)
  is_other : (place refs index referent : ℕ) → t.states (granule_of referent / GRANULES_IN_BLOCK) ≢ 3
      → TracerGoes blocks remember t (AsksBlock place refs index referent) (scanned_next place refs (index + 1))
  is_chosen : (place refs index referent : ℕ) → t.states (granule_of referent / GRANULES_IN_BLOCK) ≡ 3
      → TracerGoes blocks remember t (AsksBlock place refs index referent) (ReadsReuse place refs index)
  reads_reuse : (place refs index : ℕ)
      → TracerGoes blocks remember t (ReadsReuse place refs index) (DrawsNumber place refs index (t.reuse (field_word place index / WORDS_IN_LINE)))
  is_full : (place refs index counter : ℕ) → remember ≤ t.cursors REMEMBERED_CURSOR
      → TracerGoes blocks remember t (DrawsNumber place refs index counter) (scanned_next place refs (index + 1))
  has_room : (place refs index counter : ℕ) → t.cursors REMEMBERED_CURSOR < remember
      → TracerGoes blocks remember t (DrawsNumber place refs index counter) (Enters place refs index counter (t.cursors REMEMBERED_CURSOR))
  enters : (place refs index counter number : ℕ) → TracerGoes blocks remember t (Enters place refs index counter number) (scanned_next place refs (index + 1))
  finds_nothing : TracerGoes blocks remember t FindsNothing Rests

-- what a tracer does next: what it is about to do, or what it tries first in a unit that begins
pub data Attempts (blocks : ℕ) : Tracing → Tracing → Type 0 where
  begins : (d : Tracing) → IsTry blocks d → Attempts blocks Rests d
  goes_on : (d : Tracing) → Attempts blocks d d

-- one step of a tracer: this access, which leads there
pub record TracerSteps (blocks remember : ℕ) (t : Tables) (before : Tracing) (access : Access) (after : Tracing) : Type 0 where
  pub about : Tracing
  pub attempts : Attempts blocks before about
  pub access_is : tracer_access blocks about ≡ Some access
  pub goes : TracerGoes blocks remember t about after
