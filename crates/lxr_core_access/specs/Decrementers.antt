-- What decrementers do beside the mutators, one access after another, as in LXR (Zhao, Blackburn and McKinley, 2022). Each step is
-- one access, and where it leads depends on the entry that the access finds.
use Rattle.std.specs.Prelude.{◌≡◌, ◌≢◌, ℕ, ◌+◌, ◌*◌, ◌<◌, ◌≤◌, Bool, true, false, nat_eq, nat_lt, if◌then◌else◌, Option, Some, None}
use Rattle.lxr_layout.specs.declared.Header.TheVariants as header
use Rattle.lxr_layout.specs.declared.Name.{Name}
use Rattle.lxr_layout.specs.declared.Shape.{Shape}
use Rattle.lxr_layout.specs.declared.TheConstants.{DECREMENT_COUNT, DECREMENT_CURSOR, GRANULES_IN_BLOCK, STUCK, TRACING_WORD}
use Rattle.lxr_layout.specs.Objects.{header_of}
use Rattle.lxr_layout.specs.Places.{field_word, first_word}
use Rattle.lxr_image.specs.Tables.{Tables}
use Rattle.lxr_image.specs.Reads.{granule_of}
use Rattle.lxr_core_access.specs.declared.Access.{Access}
use Rattle.lxr_core_access.specs.declared.Access.TheVariants as access
use Rattle.lxr_core_access.specs.declared.TableEntry.TheVariants as table_entry

-- whose references are handled: those of a dead object from an index on, while a trace runs or not; or none, where an entry
-- of the list of decrements is lowered
pub data Handling : Type 0 where
  Entry : Handling
  References : (place refs next : ℕ) → (traced : Bool) → Handling

-- what a decrementer is about to do
pub data Decrementing : Type 0 where
  -- it is between two units
  Rests : Decrementing
  -- it asks whether the object at a place of its pocket needs work: it looks at the count, and then, whatever that was, at the start bit
  AsksCount : (place : ℕ) → Decrementing
  AsksStart : (place : ℕ) → (uncounted : Bool) → Decrementing
  -- it claims the dead object by its done bit, reads its header, and looks at the tracing word
  Claims : (place : ℕ) → Decrementing
  ReadsHeader : (place : ℕ) → Decrementing
  AsksTracing : (place refs : ℕ) → Decrementing
  -- it reads a reference, and makes what is referred to gray where a trace runs
  ReadsReference : (place refs index : ℕ) → (traced : Bool) → Decrementing
  MakesGray : (place refs index referent : ℕ) → Decrementing
  -- it looks at the count of an object, and lowers it by one
  AsksLowered : (referent : ℕ) → Handling → Decrementing
  Lowers : (referent : ℕ) → Handling → Decrementing
  -- it looks at the cursor of decrements and at their number, draws one, and reads it
  AsksCursor : Decrementing
  AsksNumber : (cursor : ℕ) → Decrementing
  Draws : (count : ℕ) → Decrementing
  ReadsEntry : (number : ℕ) → Decrementing

-- the access of its next step; between two units none is told, since its pocket says which it is
abbrev pub decrementer_access : Decrementing → Option Access
decrementer_access Rests = None
decrementer_access (AsksCount place) = Some (access.Look (table_entry.Count (granule_of place)))
decrementer_access (AsksStart place uncounted) = Some (access.Look (table_entry.Start (granule_of place)))
decrementer_access (Claims place) = Some (access.SetDone (granule_of place))
decrementer_access (ReadsHeader place) = Some (access.Look (table_entry.Heap (first_word place)))
decrementer_access (AsksTracing place refs) = Some (access.Look (table_entry.Cursor TRACING_WORD))
decrementer_access (ReadsReference place refs index traced) = Some (access.Look (table_entry.Heap (field_word place index)))
decrementer_access (MakesGray place refs index referent) = Some (access.SetGray (granule_of referent))
decrementer_access (AsksLowered referent handling) = Some (access.Look (table_entry.Count (granule_of referent)))
decrementer_access (Lowers referent handling) = Some (access.LowerCount (granule_of referent))
decrementer_access AsksCursor = Some (access.Look (table_entry.Cursor DECREMENT_CURSOR))
decrementer_access (AsksNumber cursor) = Some (access.Look (table_entry.Cursor DECREMENT_COUNT))
decrementer_access (Draws count) = Some (access.Draw DECREMENT_CURSOR)
decrementer_access (ReadsEntry number) = Some (access.Look (table_entry.Decrement number))

-- what comes once a reference, or an entry, is lowered: the next reference, or the end of the unit
abbrev pub handled_next : Handling → Decrementing
handled_next Entry = Rests
handled_next (References place refs next traced) = if nat_lt next refs then ReadsReference place refs next traced else Rests

-- What it tries first in a unit, and next where a place needs no work: a place of its pocket, which is one of the heap, or,
-- with an empty pocket, the list of decrements.
pub data IsTry (blocks : ℕ) : Decrementing → Type 0 where
  pocket : (place : ℕ) → 1 ≤ place → place ≤ GRANULES_IN_BLOCK * blocks → IsTry blocks (AsksCount place)
  list : IsTry blocks AsksCursor

-- Where a step leads, by what the tables have at its entry. A place that needs no work is given up for another of the
-- pocket, or for an entry of the list; an object whose count came to 0 goes into the pocket while there is room.
pub data DecrementerGoes (blocks : ℕ) (t : Tables) : Decrementing → Decrementing → Type 0 where
  asks_count : (place : ℕ) → DecrementerGoes blocks t (AsksCount place) (AsksStart place (nat_eq (t.counts (granule_of place)) 0))
  counted : (place : ℕ) (next : Decrementing) → IsTry blocks next → DecrementerGoes blocks t (AsksStart place false) next
  unstarted : (place : ℕ) (uncounted : Bool) (next : Decrementing) → t.starts (granule_of place) ≡ false → IsTry blocks next → DecrementerGoes blocks t (AsksStart place uncounted) next
  started : (place : ℕ) → t.starts (granule_of place) ≡ true → DecrementerGoes blocks t (AsksStart place true) (Claims place)
  claimed_before : (place : ℕ) (next : Decrementing) → t.dones (granule_of place) ≡ true → IsTry blocks next → DecrementerGoes blocks t (Claims place) next
  claims : (place : ℕ) → t.dones (granule_of place) ≡ false → DecrementerGoes blocks t (Claims place) (ReadsHeader place)
  reads_header : (place : ℕ) (n : Name) (s : Shape) → header_of (t.heap (first_word place)) ≡ header.Object n s
      → DecrementerGoes blocks t (ReadsHeader place) (AsksTracing place s.refs)
  asks_tracing : (place refs : ℕ) → DecrementerGoes blocks t (AsksTracing place refs) (handled_next (References place refs 0 (nat_eq (t.cursors TRACING_WORD) 1)))
  reads_nil : (place refs index : ℕ) (traced : Bool) → t.heap (field_word place index) ≡ 0
      → DecrementerGoes blocks t (ReadsReference place refs index traced) (handled_next (References place refs (index + 1) traced))
  reads_untraced : (place refs index : ℕ) → t.heap (field_word place index) ≢ 0
      → DecrementerGoes blocks t (ReadsReference place refs index false) (AsksLowered (t.heap (field_word place index)) (References place refs (index + 1) false))
  reads_traced : (place refs index : ℕ) → t.heap (field_word place index) ≢ 0
      → DecrementerGoes blocks t (ReadsReference place refs index true) (MakesGray place refs index (t.heap (field_word place index)))
  makes_gray : (place refs index referent : ℕ) → DecrementerGoes blocks t (MakesGray place refs index referent) (AsksLowered referent (References place refs (index + 1) true))
  keeps_zero : (referent : ℕ) (handling : Handling) → t.counts (granule_of referent) ≡ 0 → DecrementerGoes blocks t (AsksLowered referent handling) (handled_next handling)
  keeps_stuck : (referent : ℕ) (handling : Handling) → t.counts (granule_of referent) ≡ STUCK → DecrementerGoes blocks t (AsksLowered referent handling) (handled_next handling)
  asks_lowered : (referent : ℕ) (handling : Handling) → t.counts (granule_of referent) ≢ 0 → t.counts (granule_of referent) ≢ STUCK
      → DecrementerGoes blocks t (AsksLowered referent handling) (Lowers referent handling)
  lowers : (referent : ℕ) (handling : Handling) → DecrementerGoes blocks t (Lowers referent handling) (handled_next handling)
  asks_cursor : DecrementerGoes blocks t AsksCursor (AsksNumber (t.cursors DECREMENT_CURSOR))
  finds_none : (cursor : ℕ) → t.cursors DECREMENT_COUNT ≤ cursor → DecrementerGoes blocks t (AsksNumber cursor) Rests
  finds_some : (cursor : ℕ) → cursor < t.cursors DECREMENT_COUNT → DecrementerGoes blocks t (AsksNumber cursor) (Draws (t.cursors DECREMENT_COUNT))
  draws_none : (count : ℕ) → count ≤ t.cursors DECREMENT_CURSOR → DecrementerGoes blocks t (Draws count) Rests
  draws : (count : ℕ) → t.cursors DECREMENT_CURSOR < count → DecrementerGoes blocks t (Draws count) (ReadsEntry (t.cursors DECREMENT_CURSOR))
  reads_entry : (number : ℕ) → DecrementerGoes blocks t (ReadsEntry number) (AsksLowered (t.decs number) Entry)

-- what a decrementer does next: what it is about to do, or what it tries first in a unit that begins
pub data Attempts (blocks : ℕ) : Decrementing → Decrementing → Type 0 where
  begins : (d : Decrementing) → IsTry blocks d → Attempts blocks Rests d
  goes_on : (d : Decrementing) → Attempts blocks d d

-- one step of a decrementer: this access, which leads there
pub record DecrementerSteps (blocks : ℕ) (t : Tables) (before : Decrementing) (access : Access) (after : Decrementing) : Type 0 where
  pub about : Decrementing
  pub attempts : Attempts blocks before about
  pub access_is : decrementer_access about ≡ Some access
  pub goes : DecrementerGoes blocks t about after
