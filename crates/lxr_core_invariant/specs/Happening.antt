-- When an event may happen to a mutator, and what there is after it.
use Rattle.std.specs.Prelude.{◌≡◌, ◌≢◌, ℕ, ◌+◌, ◌%◌, ◌^◌, ◌<◌, ◌≤◌, ⊤, Bool, true, false, nat_eq, Option, Some, None, List, ◌∷◌, length, slice_set, if◌then◌else◌, IsTrue}
use Rattle.lxr_layout.specs.declared.TheConstants.{FREE_BLOCK_COUNT, FREE_BLOCK_CURSOR, PAUSE_WORD, RUN_COUNT, RUN_CURSOR}
use Rattle.lxr_layout.specs.declared.LogEntry.{LogEntry}
use Rattle.lxr_layout.specs.declared.Name.{Name}
use Rattle.lxr_layout.specs.declared.Place.{Place}
use Rattle.lxr_layout.specs.declared.Shape.{Shape}
use Rattle.lxr_layout.specs.declared.runs.Run.{Run}
use Rattle.lxr_layout.specs.Objects.{header_word, line_count, word_count}
use Rattle.lxr_layout.specs.Places.{field_word, first_word, place_in}
use Rattle.lxr_layout.specs.Runs.{word_of_run}
use Rattle.lxr_base.specs.Roomy.{pushed}
use Rattle.lxr_graph.specs.declared.Op.{Op}
use Rattle.lxr_graph.specs.declared.Op.TheVariants as op
use Rattle.lxr_graph.specs.declared.Reply.{Reply}
use Rattle.lxr_graph.specs.declared.Reply.TheVariants as reply
use Rattle.lxr_graph.specs.History.{Item, Call}
use Rattle.lxr_graph.specs.Names.{has}
use Rattle.lxr_graph.specs.State.{next_name}
use Rattle.lxr_graph.specs.Step.{step}
use Rattle.lxr_model.specs.Belongs.{writes_reference}
use Rattle.lxr_image.specs.Tables.{Tables, changed}
use Rattle.lxr_image.specs.ImageLaws.{placed, with_heap}
use Rattle.lxr_alloc.specs.Spans.{FitsSpan, IsInBlock, IsMedium, block_span, run_span}
use Rattle.lxr_invariant.specs.AbstractState.{members}
use Rattle.lxr_core_invariant.specs.ThreadStates.{Intent, Reason, Stage, ThreadState, held, is_end, op_now}
use Rattle.lxr_core_invariant.specs.ThreadStates.{Plain, AtReference, AtValue, Clears, Stores, DrewRun, HasRun, NeedsBlock, DrewBlock, HasBlock, Makes, GivesUp}
use Rattle.lxr_core_invariant.specs.ThreadStates.{Rests, Works, Names, Through}
use Rattle.lxr_core_invariant.specs.ThreadStates as why
use Rattle.lxr_core_invariant.specs.EpochStates.{Beginning, EpochState, moment_of}
use Rattle.lxr_core_invariant.specs.Events.{Event, Source, Does, TellsObject, WorksOn, at_once, bad_at, base_of, done_with, found_reply, indexed, is_for_reference, making, source_for, span_from, value_word, with_span}
use Rattle.lxr_core_invariant.specs.Events as event
use Rattle.lxr_core_invariant.specs.Events.{Current, Overflow}

-- ---- when each may happen: what the mutator's own state says, and what the step tells it of the tables

-- between two units, and no pause is asked for
pub record MayBegin (t : Tables) (v : ThreadState) : Type 0 where
  pub stage : v.stage ≡ Rests
  pub unasked : t.cursors PAUSE_WORD ≢ 1

-- where the mutator is in a unit
abbrev pub Intends : ThreadState → Intent → Type 0
Intends v intent = v.stage ≡ Works intent

-- the operation in progress is `new` of this shape
abbrev pub DoesNew : ThreadState → Shape → Type 0
DoesNew v shape = (dest : ℕ) × Does v (op.New dest shape)

-- a span has room for an object of the shape; only one of more than one line is taken from the overflow span
pub record FitsIn (v : ThreadState) (from : Source) (shape : Shape) : Type 0 where
  pub does : DoesNew v shape
  pub room : FitsSpan (span_from from v.spans) shape
  pub medium : from ≡ Overflow → IsMedium shape

pub record MayBump (t : Tables) (v : ThreadState) (from : Source) (shape : Shape) : Type 0 where
  pub begin : MayBegin t v
  pub fits : FitsIn v from shape

pub record MayDoAtOnce (t : Tables) (v : ThreadState) (o : Op) (r : Reply) (registers : List Place) : Type 0 where
  pub begin : MayBegin t v
  pub does : Does v o
  pub replies : at_once v o ≡ Some (r, registers)

-- it reads the header at the place of the object that the operation in progress works on
pub record ReadsHeader (t : Tables) (v : ThreadState) (o : Op) (place index : ℕ) (shape : Shape) : Type 0 where
  pub stage : Intends v Plain
  pub does : Does v o
  pub on : WorksOn v place index
  pub name : Name
  pub told : TellsObject (t.heap (first_word place)) name shape

pub record MayFindReference (t : Tables) (v : ThreadState) (place index : ℕ) : Type 0 where
  pub now : Op
  pub shape : Shape
  pub reads : ReadsHeader t v now place index shape
  pub reference : IsTrue (is_for_reference now)
  pub within : index < shape.refs

pub record MayFindValue (t : Tables) (v : ThreadState) (place refs index : ℕ) : Type 0 where
  pub now : Op
  pub shape : Shape
  pub reads : ReadsHeader t v now place index shape
  pub value : is_for_reference now ≡ false
  pub refs_are : refs ≡ shape.refs
  pub within : index < shape.values

pub record MayFindNone (t : Tables) (v : ThreadState) (o : Op) : Type 0 where
  pub place : ℕ
  pub index : ℕ
  pub shape : Shape
  pub reads : ReadsHeader t v o place index shape
  pub past : indexed o shape ≤ index

pub record MayLoad (v : ThreadState) (o : Op) (dest place index : ℕ) : Type 0 where
  pub stage : Intends v (AtReference place index)
  pub does : Does v o
  pub loads : (base : ℕ) × (o ≡ op.Load dest base index)

pub record MayTell (t : Tables) (v : ThreadState) (o : Op) (n : Name) : Type 0 where
  pub place : ℕ
  pub shape : Shape
  pub stage : v.stage ≡ Names place
  pub does : Does v o
  pub told : TellsObject (t.heap (first_word place)) n shape

pub record MayGet (v : ThreadState) (o : Op) (place refs index : ℕ) : Type 0 where
  pub stage : Intends v (AtValue place refs index)
  pub does : Does v o
  pub gets : (base : ℕ) × (o ≡ op.Get base index)

pub record MayPut (v : ThreadState) (o : Op) (place refs index value : ℕ) : Type 0 where
  pub stage : Intends v (AtValue place refs index)
  pub does : Does v o
  pub puts : (base : ℕ) × (o ≡ op.Put base index value)

pub record MayAdd (v : ThreadState) (o : Op) (place refs index value : ℕ) : Type 0 where
  pub stage : Intends v (AtValue place refs index)
  pub does : Does v o
  pub adds : (base : ℕ) × (o ≡ op.Add base index value)

-- the operation in progress is a store or a swap
abbrev pub WritesReference : ThreadState → Type 0
WritesReference v = IsTrue (writes_reference (op_now v))

-- the log has room for an entry
abbrev pub LogHasRoom : ThreadState → Type 0
LogHasRoom v = length v.log.items < v.log.room

pub record MaySeeClear (t : Tables) (v : ThreadState) (place index : ℕ) : Type 0 where
  pub stage : Intends v (AtReference place index)
  pub does : WritesReference v
  pub clear : t.unlogged (field_word place index) ≡ false

pub record MaySeeFull (t : Tables) (v : ThreadState) (place index : ℕ) : Type 0 where
  pub stage : Intends v (AtReference place index)
  pub does : WritesReference v
  pub unlogged : t.unlogged (field_word place index) ≡ true
  pub full : v.log.room ≤ length v.log.items

pub record MayLoadOld (v : ThreadState) (place index : ℕ) : Type 0 where
  pub stage : Intends v (AtReference place index)
  pub does : WritesReference v
  pub room : LogHasRoom v

-- the log still has room, since only its own mutator writes it
pub record MayClear (t : Tables) (v : ThreadState) (e : LogEntry) (bit : Bool) : Type 0 where
  pub stage : Intends v (Clears e)
  pub does : WritesReference v
  pub room : LogHasRoom v
  pub unlogged : t.unlogged (field_word e.place.0 e.index) ≡ bit

-- the object of a name stands at the place of the entry
pub record MayClearFirst (b : Beginning) (s : EpochState) (v : ThreadState) (e : LogEntry) (n : Name) : Type 0 where
  pub clear : MayClear s.tables v e true
  pub member : IsTrue (has (members (moment_of b s)) n)
  pub place : e.place.0 ≡ s.at n

pub record MayStore (v : ThreadState) (o : Op) (place index value : ℕ) : Type 0 where
  pub stage : Intends v (Stores place index)
  pub does : Does v o
  pub base : ℕ
  pub source : ℕ
  pub stores : o ≡ op.Store base index source
  pub value_is : value ≡ (held v source).0

pub record MaySwap (v : ThreadState) (o : Op) (dest place index value : ℕ) : Type 0 where
  pub stage : Intends v (Stores place index)
  pub does : Does v o
  pub base : ℕ
  pub source : ℕ
  pub swaps : o ≡ op.Swap dest base index source
  pub value_is : value ≡ (held v source).0

pub record MayDrawRun (v : ThreadState) : Type 0 where
  pub stage : Intends v Plain
  pub shape : Shape
  pub does : DoesNew v shape
  pub line : line_count shape ≡ 1

pub record MayMissRun (t : Tables) (v : ThreadState) : Type 0 where
  pub number : ℕ
  pub stage : Intends v (DrewRun number)
  pub none : t.cursors RUN_COUNT ≤ number

pub record MaySeeRun (t : Tables) (v : ThreadState) (number : ℕ) : Type 0 where
  pub stage : Intends v (DrewRun number)
  pub listed : number < t.cursors RUN_COUNT

-- a run always fits an object of one line
pub record MayTakeRun (t : Tables) (v : ThreadState) (r : Run) (shape : Shape) : Type 0 where
  pub number : ℕ
  pub stage : Intends v (HasRun number)
  pub word : t.runs number ≡ word_of_run r
  pub in_block : IsInBlock r
  pub does : DoesNew v shape
  pub line : line_count shape ≡ 1
  pub fits : FitsSpan (run_span r) shape

abbrev pub MayDrawBlock : ThreadState → Type 0
MayDrawBlock v = Intends v NeedsBlock × ((shape : Shape) × DoesNew v shape)

pub record MayMissBlock (t : Tables) (v : ThreadState) : Type 0 where
  pub number : ℕ
  pub stage : Intends v (DrewBlock number)
  pub shape : Shape
  pub does : DoesNew v shape
  pub none : t.cursors FREE_BLOCK_COUNT ≤ number

pub record MaySeeBlock (t : Tables) (v : ThreadState) (number : ℕ) : Type 0 where
  pub stage : Intends v (DrewBlock number)
  pub listed : number < t.cursors FREE_BLOCK_COUNT

pub record MayTakeBlock (t : Tables) (v : ThreadState) (block : ℕ) (shape : Shape) : Type 0 where
  pub number : ℕ
  pub stage : Intends v (HasBlock number)
  pub word : t.frees number ≡ block
  pub does : DoesNew v shape

pub record MayWipe (v : ThreadState) (place : ℕ) (shape : Shape) (wiped : ℕ) : Type 0 where
  pub stage : Intends v (Makes place shape wiped)
  pub more : wiped + 1 < word_count shape

pub record MayMake (v : ThreadState) (o : Op) (dest place : ℕ) (shape : Shape) : Type 0 where
  pub wiped : ℕ
  pub stage : Intends v (Makes place shape wiped)
  pub all : wiped + 1 ≡ word_count shape
  pub does : Does v o
  pub makes : o ≡ op.New dest shape

-- the reply of an operation that asks for a pause
abbrev pub asked_by : Op → Option Reply
asked_by op.Pause = Some reply.Paused
asked_by op.Collect = Some reply.Collected
asked_by _ = None

pub record MayAsk (v : ThreadState) (o : Op) (r : Reply) : Type 0 where
  pub stage : Intends v Plain
  pub does : Does v o
  pub asks : asked_by o ≡ Some r

abbrev pub May : Beginning → EpochState → ThreadState → Event → Type 0
May b s v event.Stays = ⊤
May b s v event.Obeys = (v.stage ≡ Rests) × (s.tables.cursors PAUSE_WORD ≡ 1)
May b s v event.Begins = MayBegin s.tables v
May b s v event.BeginsBlock = MayBegin s.tables v × ((shape : Shape) × DoesNew v shape)
May b s v (event.Bumps from shape) = MayBump s.tables v from shape
May b s v (event.DoesAtOnce o r registers) = MayDoAtOnce s.tables v o r registers
May b s v (event.FindsReference place index) = MayFindReference s.tables v place index
May b s v (event.FindsValue place refs index) = MayFindValue s.tables v place refs index
May b s v (event.FindsNone o) = MayFindNone s.tables v o
May b s v (event.LoadsReference o dest place index) = MayLoad v o dest place index
May b s v (event.TellsName o n) = MayTell s.tables v o n
May b s v (event.GetsValue o place refs index) = MayGet v o place refs index
May b s v (event.PutsValue o place refs index value) = MayPut v o place refs index value
May b s v (event.AddsValue o place refs index value) = MayAdd v o place refs index value
May b s v (event.SeesClear place index) = MaySeeClear s.tables v place index
May b s v (event.SeesFull place index) = MaySeeFull s.tables v place index
May b s v (event.LoadsOld place index) = MayLoadOld v place index
May b s v (event.ClearsFirst e n) = MayClearFirst b s v e n
May b s v (event.ClearsLate e) = MayClear s.tables v e false
May b s v (event.StoresReference o place index value) = MayStore v o place index value
May b s v (event.SwapsReference o dest place index value) = MaySwap v o dest place index value
May b s v event.DrawsRun = MayDrawRun v
May b s v event.MissesRun = MayMissRun s.tables v
May b s v (event.SeesRun number) = MaySeeRun s.tables v number
May b s v (event.TakesRun r shape) = MayTakeRun s.tables v r shape
May b s v event.DrawsBlock = MayDrawBlock v
May b s v event.MissesBlock = MayMissBlock s.tables v
May b s v (event.SeesBlock number) = MaySeeBlock s.tables v number
May b s v (event.TakesBlock block shape) = MayTakeBlock s.tables v block shape
May b s v (event.Wipes place shape wiped) = MayWipe v place shape wiped
May b s v (event.MakesObject o dest place shape) = MayMake v o dest place shape
May b s v (event.Asks o r) = MayAsk v o r
May b s v (event.Leaves why) = Intends v (GivesUp why)

-- ---- the thread state after each event

-- the thread state with another stage
abbrev pub at_stage : ThreadState → Stage → ThreadState
at_stage v stage = record v { stage = stage }

abbrev pub intends : ThreadState → Intent → ThreadState
intends v intent = at_stage v (Works intent)

-- the thread state once a load or a swap has taken a place: a reply that has a name to tell waits for it
abbrev pub loaded_with : ThreadState → Op → ℕ → Place → ThreadState
loaded_with v o dest p =
    let held = record v { registers = slice_set v.registers dest p } in
    if nat_eq p.0 0 then (done_with held o (found_reply o None)) else (at_stage held (Names p.0))

-- ---- what there is after an event of mutator i, which showed v

-- the mutator shows another thread state
abbrev pub shows : EpochState → ℕ → ThreadState → EpochState
shows s i w = record s { thread_states = slice_set s.thread_states i w }

-- the tables with one bit of a reference cleared, and with a cursor put
abbrev pub with_logged : Tables → ℕ → Tables
with_logged t w = record t { unlogged = changed t.unlogged w false }

abbrev pub with_cursor : Tables → ℕ → ℕ → Tables
with_cursor t c value = record t { cursors = changed t.cursors c value }

-- the history with the call of an operation, with the reply of the model's step
abbrev pub with_call : Beginning → EpochState → ThreadState → Op → List Item
with_call b s v o = Call v.thread o (step (moment_of b s).state v.thread o).1 ∷ s.history

-- the operation stands in the history, the mutator shows another thread state, and the tables are these
abbrev pub stands : Beginning → EpochState → ℕ → ThreadState → Op → ThreadState → Tables → EpochState
stands b s i v o w t = record (shows s i w) { history = with_call b s v o; tables = t }

-- the entry that a store or a swap records: what it loaded, as a place
abbrev pub entry_with : Tables → ℕ → ℕ → LogEntry
entry_with t place index = record { place = record { 0 = place }; index = index; old = place_in (t.heap (field_word place index)) }

-- the thread state of a mutator that takes a run, or a whole block, for an object, which it then makes
abbrev pub with_run : ThreadState → Run → ThreadState
with_run v r = record v { spans = with_span Current v.spans (run_span r) }

abbrev pub with_block : ThreadState → ℕ → Shape → ThreadState
with_block v block shape = record v { spans = with_span (source_for shape) v.spans (block_span block) }

-- what there is after an event of mutator i, which showed v
abbrev pub happen : Beginning → EpochState → ℕ → ThreadState → Event → EpochState
happen b s i v event.Stays = s
happen b s i v event.Obeys = shows s i (at_stage v (Through why.Asked))
happen b s i v event.Begins = shows s i (intends v Plain)
happen b s i v event.BeginsBlock = shows s i (intends v NeedsBlock)
happen b s i v (event.Bumps from shape) = shows s i (making v from v.spans shape)
happen b s i v (event.DoesAtOnce o r registers) = stands b s i v o (done_with (record v { registers = registers }) o r) s.tables
happen b s i v (event.FindsReference place index) = shows s i (intends v (AtReference place index))
happen b s i v (event.FindsValue place refs index) = shows s i (intends v (AtValue place refs index))
happen b s i v (event.FindsNone o) = stands b s i v o (done_with v o reply.Range) s.tables
happen b s i v (event.LoadsReference o dest place index) = stands b s i v o (loaded_with v o dest (place_in (s.tables.heap (field_word place index)))) s.tables
happen b s i v (event.TellsName o n) = shows s i (done_with v o (found_reply o (Some n)))
happen b s i v (event.GetsValue o place refs index) = stands b s i v o (done_with v o (reply.Got (s.tables.heap (value_word place refs index)))) s.tables
happen b s i v (event.PutsValue o place refs index value) = stands b s i v o (done_with v o reply.Put) (with_heap s.tables (value_word place refs index) value)
happen b s i v (event.AddsValue o place refs index value) =
    let old = s.tables.heap (value_word place refs index) in
    stands b s i v o (done_with v o (reply.Added old)) (with_heap s.tables (value_word place refs index) ((old + value) % 2 ^ 64))
happen b s i v (event.SeesClear place index) = shows s i (intends v (Stores place index))
happen b s i v (event.SeesFull place index) = shows s i (intends v (GivesUp why.LogFull))
happen b s i v (event.LoadsOld place index) = shows s i (intends v (Clears (entry_with s.tables place index)))
happen b s i v (event.ClearsFirst e n) = record (shows s i (intends (record v { log = pushed v.log e }) (Stores e.place.0 e.index))) {
  tables = with_logged s.tables (field_word e.place.0 e.index);
  cleared = (n, e.index) ∷ s.cleared;
}
happen b s i v (event.ClearsLate e) = shows s i (intends v (Stores e.place.0 e.index))
happen b s i v (event.StoresReference o place index value) = stands b s i v o (done_with v o reply.Stored) (with_heap s.tables (field_word place index) value)
happen b s i v (event.SwapsReference o dest place index value) =
    stands b s i v o (loaded_with v o dest (place_in (s.tables.heap (field_word place index)))) (with_heap s.tables (field_word place index) value)
happen b s i v event.DrawsRun = record (shows s i (intends v (DrewRun (s.tables.cursors RUN_CURSOR)))) { tables = with_cursor s.tables RUN_CURSOR (s.tables.cursors RUN_CURSOR + 1) }
happen b s i v event.MissesRun = shows s i (intends v NeedsBlock)
happen b s i v (event.SeesRun number) = shows s i (intends v (HasRun number))
happen b s i v (event.TakesRun r shape) = shows s i (making v Current (with_run v r).spans shape)
happen b s i v event.DrawsBlock = record (shows s i (intends v (DrewBlock (s.tables.cursors FREE_BLOCK_CURSOR)))) { tables = with_cursor s.tables FREE_BLOCK_CURSOR (s.tables.cursors FREE_BLOCK_CURSOR + 1) }
happen b s i v event.MissesBlock = shows s i (intends v (GivesUp why.NoRun))
happen b s i v (event.SeesBlock number) = shows s i (intends v (HasBlock number))
happen b s i v (event.TakesBlock block shape) = shows s i (making v (source_for shape) (with_block v block shape).spans shape)
happen b s i v (event.Wipes place shape wiped) = record (shows s i (intends v (Makes place shape (wiped + 1)))) { tables = with_heap s.tables (first_word place + 1 + wiped) 0 }
happen b s i v (event.MakesObject o dest place shape) =
    let name = next_name (moment_of b s).state.graph v.thread in
    record (stands b s i v o (done_with (record v { registers = slice_set v.registers dest (record { 0 = place }) }) o (reply.New name))
    (with_heap s.tables (first_word place) (header_word name shape))) { at = placed s.at name place }
happen b s i v (event.Asks o r) = stands b s i v o (done_with v o r) (with_cursor s.tables PAUSE_WORD 1)
happen b s i v (event.Leaves why) = record (shows s i (at_stage v (Through why))) { tables = with_cursor s.tables PAUSE_WORD 1 }
