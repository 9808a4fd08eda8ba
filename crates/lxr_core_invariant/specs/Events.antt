-- The single atomic steps of mutators, in their finest granularity: what each does to the tables, to what its mutator shows,
-- and to the history. The steps of decrementers stand in a file of their own.
use Rattle.std.specs.Prelude.{◌≡◌, ◌≢◌, ℕ, ◌+◌, Bool, true, false, nat_eq, Option, Some, None, List, [], ◌∷◌, ◌++◌, replicate, slice_set, if◌then◌else◌}
use Rattle.lxr_layout.specs.declared.TheConstants.{REGISTERS}
use Rattle.lxr_layout.specs.declared.LogEntry.{LogEntry}
use Rattle.lxr_layout.specs.declared.Name.{Name}
use Rattle.lxr_layout.specs.declared.Place.{Place}
use Rattle.lxr_layout.specs.declared.Shape.{Shape}
use Rattle.lxr_layout.specs.declared.Header.TheVariants as header
use Rattle.lxr_layout.specs.declared.runs.Run.{Run}
use Rattle.lxr_layout.specs.Objects.{header_of, line_count}
use Rattle.lxr_layout.specs.Places.{first_word}
use Rattle.lxr_layout.specs.Registers.{nil}
use Rattle.lxr_graph.specs.declared.Op.{Op}
use Rattle.lxr_graph.specs.declared.Op.TheVariants as op
use Rattle.lxr_graph.specs.declared.Reply.{Reply}
use Rattle.lxr_graph.specs.declared.Reply.TheVariants as reply
use Rattle.lxr_alloc.specs.declared.Span.{Span}
use Rattle.lxr_alloc.specs.declared.Spans.{Spans}
use Rattle.lxr_alloc.specs.Spans.{front_of, taken_from}
use Rattle.lxr_core_invariant.specs.ThreadStates.{Intent, Reason, Stage, ThreadState, held, is_end, op_now}
use Rattle.lxr_core_invariant.specs.ThreadStates.{Plain, AtReference, AtValue, Clears, Stores, DrewRun, HasRun, NeedsBlock, DrewBlock, HasBlock, Makes, GivesUp}
use Rattle.lxr_core_invariant.specs.ThreadStates.{Rests, Works, Names, Through}
use Rattle.lxr_core_invariant.specs.ThreadStates as why

-- From which span an object is taken.
pub data Source : Type 0 where
  Current : Source
  Overflow : Source

-- What happens to one mutator, with what it does it with.
pub data Event : Type 0 where
  -- it makes a step that changes nothing of this
  Stays : Event
  -- between two units it sees that a pause is asked for
  Obeys : Event
  -- it begins a unit; it begins one that needs a block; it begins one with an object of a shape for which it has room
  Begins : Event
  BeginsBlock : Event
  Bumps : Source → Shape → Event
  -- it does an operation that needs no further step, which gives this reply and these registers
  DoesAtOnce : Op → Reply → List Place → Event
  -- it reads the header of the object at the place that it works on: the index is that of a reference, of a data word of an
  -- object with so many references, or of none
  FindsReference : (place index : ℕ) → Event
  FindsValue : (place refs index : ℕ) → Event
  FindsNone : Op → Event
  -- a load takes the reference at a place and index into a register, and tells the name of what it found there
  LoadsReference : Op → (dest place index : ℕ) → Event
  TellsName : Op → Name → Event
  -- a get takes the data word, a put writes a value there, an add adds a value to it and takes what it was
  GetsValue : Op → (place refs index : ℕ) → Event
  PutsValue : Op → (place refs index value : ℕ) → Event
  AddsValue : Op → (place refs index value : ℕ) → Event
  -- a store or a swap sees the unlogged bit clear, or sees that its log is full, or loads the reference
  SeesClear : (place index : ℕ) → Event
  SeesFull : (place index : ℕ) → Event
  LoadsOld : (place index : ℕ) → Event
  -- it clears the bit, which was set, of the reference of an entry, of the object of a name; the bit was clear
  ClearsFirst : LogEntry → Name → Event
  ClearsLate : LogEntry → Event
  -- a store stores a place there; a swap does, and takes the reference that it found into a register, whose name it tells then
  StoresReference : Op → (place index value : ℕ) → Event
  SwapsReference : Op → (dest place index value : ℕ) → Event
  -- a new object: it draws the number of a run or of a block, sees that there is none of that number, or that there is one,
  -- and takes it for an object of a shape
  DrawsRun : Event
  MissesRun : Event
  SeesRun : ℕ → Event
  TakesRun : Run → Shape → Event
  DrawsBlock : Event
  MissesBlock : Event
  SeesBlock : ℕ → Event
  TakesBlock : (block : ℕ) → Shape → Event
  -- it wipes the next word of the object that it makes, and makes it by its header
  Wipes : (place : ℕ) → Shape → (wiped : ℕ) → Event
  MakesObject : Op → (dest place : ℕ) → Shape → Event
  -- a pause is asked for by an operation, with its reply, and by one who gives up
  Asks : Op → Reply → Event
  Leaves : Reason → Event

-- ---- what a mutator works on

-- the register and the index by which an operation names a reference or a data word
abbrev pub base_of : Op → Option (ℕ × ℕ)
base_of (op.Load dest base index) = Some (base, index)
base_of (op.Store base index source) = Some (base, index)
base_of (op.Put base index value) = Some (base, index)
base_of (op.Get base index) = Some (base, index)
base_of (op.Swap dest base index source) = Some (base, index)
base_of (op.Add base index value) = Some (base, index)
base_of _ = None

-- the heap word of a data word of the object at a place, which has so many references
abbrev pub value_word : ℕ → ℕ → ℕ → ℕ
value_word place refs index = first_word place + 1 + refs + index

-- the operation in progress works by its base register on index `index` of the object at a place
pub record WorksOn (v : ThreadState) (place index : ℕ) : Type 0 where
  pub now : Op
  pub base : ℕ
  pub is : op_now v ≡ Some now
  pub named : base_of now ≡ Some (base, index)
  pub held : (held v base).0 ≡ place
  pub some : place ≢ 0

-- it is a load, a store or a swap; where it has a base, a put, a get or an add
abbrev pub is_for_reference : Op → Bool
is_for_reference (op.Load dest base index) = true
is_for_reference (op.Store base index source) = true
is_for_reference (op.Swap dest base index source) = true
is_for_reference _ = false

-- it takes a reference into a register: a load or a swap
abbrev pub takes_reference : Op → Bool
takes_reference (op.Load dest base index) = true
takes_reference (op.Swap dest base index source) = true
takes_reference _ = false

-- what such an operation replies of the reference that it found
abbrev pub found_reply : Op → Option Name → Reply
found_reply (op.Swap dest base index source) found = reply.Swapped found
found_reply _ found = reply.Loaded found

-- the operation in progress is this
abbrev pub Does : ThreadState → Op → Type 0
Does v o = op_now v ≡ Some o

-- a header word tells of an object of this name and shape
abbrev pub TellsObject : ℕ → Name → Shape → Type 0
TellsObject word n shape = header_of word ≡ header.Object n shape

-- how many references or data words an operation may index
abbrev pub indexed : Op → Shape → ℕ
indexed o shape = if is_for_reference o then shape.refs else shape.values

-- ---- how a unit ends

-- where a mutator is once an operation is done: its end, or the last one that it may do, is the last in this epoch
abbrev pub stage_after : ThreadState → Op → Stage
stage_after v o = if is_end o then (Through why.Ended) else (if nat_eq (v.since + 1) v.every then (Through why.Turns) else Rests)

-- the thread state once an operation is done with a reply
abbrev pub done_with : ThreadState → Op → Reply → ThreadState
done_with v o r = record v {
  replies = v.replies ++ r ∷ [];
  since = if is_end o then v.since else (v.since + 1);
  stage = stage_after v o;
}

-- the reply of an operation whose base register is nil, where it isn't
abbrev pub bad_at : ThreadState → ℕ → Option (Reply × List Place)
bad_at v base = if nat_eq (held v base).0 0 then Some (reply.Bad, v.registers) else None

-- the reply and the registers of an operation that needs no further step, where this is one
abbrev pub at_once : ThreadState → Op → Option (Reply × List Place)
at_once v (op.New dest shape) = None
at_once v (op.Load dest base index) = bad_at v base
at_once v (op.Store base index source) = bad_at v base
at_once v (op.Put base index value) = bad_at v base
at_once v (op.Get base index) = bad_at v base
at_once v (op.Swap dest base index source) = bad_at v base
at_once v (op.Add base index value) = bad_at v base
at_once v (op.Move dest source) = Some (reply.Moved, slice_set v.registers dest (held v source))
at_once v (op.Nil dest) = Some (reply.Cleared, slice_set v.registers dest nil)
at_once v (op.Same left right) = Some (reply.Same (nat_eq (held v left).0 (held v right).0), v.registers)
at_once v op.Pause = None
at_once v op.Collect = None
at_once v op.End = Some (reply.Ended, replicate REGISTERS nil)

-- the span from which an object is taken, and the spans once it is taken
abbrev pub span_from : Source → Spans → Span
span_from Current spans = spans.current
span_from Overflow spans = spans.overflow

abbrev pub spans_after : Source → Spans → Shape → Spans
spans_after Current spans shape = record spans { current = taken_from spans.current shape }
spans_after Overflow spans shape = record spans { overflow = taken_from spans.overflow shape }

-- the spans with a whole block: the overflow span for an object of more than one line, else the current one
abbrev pub source_for : Shape → Source
source_for shape = if nat_eq (line_count shape) 1 then Current else Overflow

abbrev pub with_span : Source → Spans → Span → Spans
with_span Current spans span = record spans { current = span }
with_span Overflow spans span = record spans { overflow = span }

-- the thread state that makes an object at the front of a span of these spans
abbrev pub making : ThreadState → Source → Spans → Shape → ThreadState
making v from spans shape = record v { spans = spans_after from spans shape; stage = Works (Makes (front_of (span_from from spans)).0 shape 0) }
