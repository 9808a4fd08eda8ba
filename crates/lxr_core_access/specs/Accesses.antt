-- What one atomic step does to the tables of a space, and which action on which word does it.
use Rattle.std.specs.Prelude.{◌≡◌, ◌≢◌, ℕ, ◌+◌, ◌-◌, ◌*◌, ◌/◌, ◌%◌, ◌^◌, ◌<◌, true, false}
use Rattle.lxr_tables.specs.declared.counts.TheConstants.{COUNTS_IN_WORD}
use Rattle.lxr_tables.specs.Entries.{all_but, is_set}
use Rattle.lxr_layout.specs.declared.TheConstants.{COUNT_BITS, GRANULES_IN_BLOCK, LINES_IN_BLOCK, STUCK, WORDS_IN_BLOCK}
use Rattle.lxr_layout.specs.declared.limits.Limits.{Limits}
use Rattle.lxr_layout.specs.declared.limits.Regions.{Regions}
use Rattle.lxr_layout.specs.Spaces.{counts_region, cursors_region, decs_region, dones_region, frees_region, grays_region, heap_region, marks_region, outs_region, region_begin, remembered_region, reuse_region, runs_region, starts_region, states_region, unlogged_region}
use Rattle.lxr_image.specs.Tables.{Tables, changed}
use Rattle.lxr_actor.specs.declared.Action.{Action}
use Rattle.lxr_actor.specs.declared.Kindred.{Kindred}
use Rattle.lxr_actor.specs.declared.Kindred.TheVariants as kind
use Rattle.lxr_core_access.specs.declared.TableEntry.{TableEntry}
use Rattle.lxr_core_access.specs.declared.TableEntry.TheVariants.{Heap, Count, Start, Mark, Gray, Done, Unlogged, Reuse, Out, State, Run, Free, Decrement, Remembered, Cursor}
use Rattle.lxr_core_access.specs.declared.Access.{Access}
use Rattle.lxr_core_access.specs.declared.Access.TheVariants.{Look, PutHeap, SwapHeap, AddHeap, ClearUnlogged, SetMark, SetGray, SetDone, LowerCount, Draw, PutCursor, PutRemembered}

-- the regions of a space of these limits
pub record AreRegions (l : Limits) (r : Regions) : Type 0 where
  pub heap : r.heap ≡ region_begin l heap_region
  pub counts : r.counts ≡ region_begin l counts_region
  pub starts : r.starts ≡ region_begin l starts_region
  pub marks : r.marks ≡ region_begin l marks_region
  pub grays : r.grays ≡ region_begin l grays_region
  pub dones : r.dones ≡ region_begin l dones_region
  pub unlogged : r.unlogged ≡ region_begin l unlogged_region
  pub reuse : r.reuse ≡ region_begin l reuse_region
  pub outs : r.outs ≡ region_begin l outs_region
  pub states : r.states ≡ region_begin l states_region
  pub runs : r.runs ≡ region_begin l runs_region
  pub frees : r.frees ≡ region_begin l frees_region
  pub decs : r.decs ≡ region_begin l decs_region
  pub remembered : r.remembered ≡ region_begin l remembered_region
  pub cursors : r.cursors ≡ region_begin l cursors_region

-- the index of the word that has an entry
abbrev pub table_entry_word : Regions → TableEntry → ℕ
table_entry_word r (Heap at) = r.heap + at
table_entry_word r (Count granule) = r.counts + granule / COUNTS_IN_WORD
table_entry_word r (Start granule) = r.starts + granule / 64
table_entry_word r (Mark granule) = r.marks + granule / 64
table_entry_word r (Gray granule) = r.grays + granule / 64
table_entry_word r (Done granule) = r.dones + granule / 64
table_entry_word r (Unlogged at) = r.unlogged + at / 64
table_entry_word r (Reuse line) = r.reuse + line / 2
table_entry_word r (Out line) = r.outs + line / 64
table_entry_word r (State block) = r.states + block
table_entry_word r (Run at) = r.runs + at
table_entry_word r (Free at) = r.frees + at
table_entry_word r (Decrement at) = r.decs + at
table_entry_word r (Remembered at) = r.remembered + at
table_entry_word r (Cursor number) = r.cursors + number

-- the entry exists in a space of these limits
abbrev pub IsTableEntry : Limits → TableEntry → Type 0
IsTableEntry l (Heap at) = at < WORDS_IN_BLOCK * l.blocks
IsTableEntry l (Count granule) = granule < GRANULES_IN_BLOCK * l.blocks
IsTableEntry l (Start granule) = granule < GRANULES_IN_BLOCK * l.blocks
IsTableEntry l (Mark granule) = granule < GRANULES_IN_BLOCK * l.blocks
IsTableEntry l (Gray granule) = granule < GRANULES_IN_BLOCK * l.blocks
IsTableEntry l (Done granule) = granule < GRANULES_IN_BLOCK * l.blocks
IsTableEntry l (Unlogged at) = at < WORDS_IN_BLOCK * l.blocks
IsTableEntry l (Reuse line) = line < LINES_IN_BLOCK * l.blocks
IsTableEntry l (Out line) = line < LINES_IN_BLOCK * l.blocks
IsTableEntry l (State block) = block < l.blocks
IsTableEntry l (Run at) = at < 64 * l.blocks
IsTableEntry l (Free at) = at < l.blocks
IsTableEntry l (Decrement at) = at < l.threads * (l.log + l.registers)
IsTableEntry l (Remembered at) = at < l.remember
IsTableEntry l (Cursor number) = number < 16

-- what the word of an entry tells of it
abbrev pub Tells : Tables → TableEntry → ℕ → Type 0
Tells t (Heap at) word = word ≡ t.heap at
Tells t (Count granule) word = word / 2 ^ (COUNT_BITS * (granule % COUNTS_IN_WORD)) % 2 ^ COUNT_BITS ≡ t.counts granule
Tells t (Start granule) word = is_set word (granule % 64) ≡ t.starts granule
Tells t (Mark granule) word = is_set word (granule % 64) ≡ t.marks granule
Tells t (Gray granule) word = is_set word (granule % 64) ≡ t.grays granule
Tells t (Done granule) word = is_set word (granule % 64) ≡ t.dones granule
Tells t (Unlogged at) word = is_set word (at % 64) ≡ t.unlogged at
Tells t (Reuse line) word = word / 2 ^ (32 * (line % 2)) % 2 ^ 32 ≡ t.reuse line
Tells t (Out line) word = is_set word (line % 64) ≡ t.outs line
Tells t (State block) word = word ≡ t.states block
Tells t (Run at) word = word ≡ t.runs at
Tells t (Free at) word = word ≡ t.frees at
Tells t (Decrement at) word = word ≡ t.decs at
Tells t (Remembered at) word = word ≡ t.remembered at
Tells t (Cursor number) word = word ≡ t.cursors number

-- the entry that an access looks at or changes
abbrev pub table_entry_of : Access → TableEntry
table_entry_of (Look table_entry) = table_entry
table_entry_of (PutHeap at value) = Heap at
table_entry_of (SwapHeap at value) = Heap at
table_entry_of (AddHeap at value) = Heap at
table_entry_of (ClearUnlogged at) = Unlogged at
table_entry_of (SetMark granule) = Mark granule
table_entry_of (SetGray granule) = Gray granule
table_entry_of (SetDone granule) = Done granule
table_entry_of (LowerCount granule) = Count granule
table_entry_of (Draw cursor) = Cursor cursor
table_entry_of (PutCursor cursor value) = Cursor cursor
table_entry_of (PutRemembered at word) = Remembered at

-- the kind of the step that does it, and the step's operand
abbrev pub kind_of : Access → Kindred
kind_of (Look table_entry) = kind.Load
kind_of (PutHeap at value) = kind.Store
kind_of (SwapHeap at value) = kind.Swap
kind_of (AddHeap at value) = kind.Add
kind_of (ClearUnlogged at) = kind.And
kind_of (SetMark granule) = kind.Or
kind_of (SetGray granule) = kind.Or
kind_of (SetDone granule) = kind.Or
kind_of (LowerCount granule) = kind.Sub
kind_of (Draw cursor) = kind.Add
kind_of (PutCursor cursor value) = kind.Store
kind_of (PutRemembered at word) = kind.Store

abbrev pub operand_of : Access → ℕ
operand_of (Look table_entry) = 0
operand_of (PutHeap at value) = value
operand_of (SwapHeap at value) = value
operand_of (AddHeap at value) = value
operand_of (ClearUnlogged at) = all_but (at % 64)
operand_of (SetMark granule) = 2 ^ (granule % 64)
operand_of (SetGray granule) = 2 ^ (granule % 64)
operand_of (SetDone granule) = 2 ^ (granule % 64)
operand_of (LowerCount granule) = 2 ^ (COUNT_BITS * (granule % COUNTS_IN_WORD))
operand_of (Draw cursor) = 1
operand_of (PutCursor cursor value) = value
operand_of (PutRemembered at word) = word

-- the action that does it
abbrev pub action_of : Regions → Access → Action
action_of r d = record { kind = kind_of d; word = table_entry_word r (table_entry_of d); operand = operand_of d }

-- what an access asks of its entry: a cursor that is drawn from stays a word, and a count that is lowered is neither 0 nor
-- stuck
abbrev pub MayChange : Tables → Access → Type 0
MayChange t (Look table_entry) = Unit {0}
MayChange t (PutHeap at value) = Unit {0}
MayChange t (SwapHeap at value) = Unit {0}
MayChange t (AddHeap at value) = Unit {0}
MayChange t (ClearUnlogged at) = Unit {0}
MayChange t (SetMark granule) = Unit {0}
MayChange t (SetGray granule) = Unit {0}
MayChange t (SetDone granule) = Unit {0}
MayChange t (LowerCount granule) = (t.counts granule ≢ 0) × (t.counts granule ≢ STUCK)
MayChange t (Draw cursor) = t.cursors cursor + 1 < 2 ^ 64
MayChange t (PutCursor cursor value) = Unit {0}
MayChange t (PutRemembered at word) = Unit {0}

-- an access may be done: its entry exists, and has what the access asks of it
pub record MayBeDone (l : Limits) (t : Tables) (d : Access) : Type 0 where
  pub table_entry : IsTableEntry l (table_entry_of d)
  pub entry : MayChange t d

-- the tables then
abbrev pub done_to : Tables → Access → Tables
done_to t (Look table_entry) = t
done_to t (PutHeap at value) = record t { heap = changed t.heap at value }
done_to t (SwapHeap at value) = record t { heap = changed t.heap at value }
done_to t (AddHeap at value) = record t { heap = changed t.heap at ((t.heap at + value) % 2 ^ 64) }
done_to t (ClearUnlogged at) = record t { unlogged = changed t.unlogged at false }
done_to t (SetMark granule) = record t { marks = changed t.marks granule true }
done_to t (SetGray granule) = record t { grays = changed t.grays granule true }
done_to t (SetDone granule) = record t { dones = changed t.dones granule true }
done_to t (LowerCount granule) = record t { counts = changed t.counts granule (t.counts granule - 1) }
done_to t (Draw cursor) = record t { cursors = changed t.cursors cursor (t.cursors cursor + 1) }
done_to t (PutCursor cursor value) = record t { cursors = changed t.cursors cursor value }
done_to t (PutRemembered at word) = record t { remembered = changed t.remembered at word }
