-- What an operation comes to that a thread does at once, on a space at rest.
use Rattle.std.specs.Prelude.{◌≡◌, ℕ, ◌+◌, ◌-◌, ◌*◌, ◌<◌, ◌≤◌, false, Option, None, Some, List, IsTrue, length, replicate}
use Rattle.lxr_layout.specs.declared.Name.{Name}
use Rattle.lxr_layout.specs.declared.Place.{Place}
use Rattle.lxr_layout.specs.declared.Shape.{Shape}
use Rattle.lxr_layout.specs.declared.TheConstants.{REGISTERS, WORDS_IN_BLOCK}
use Rattle.lxr_layout.specs.Places.{IsPlace, first_word}
use Rattle.lxr_layout.specs.Registers.{nil}
use Rattle.lxr_graph.specs.declared.Op.{Op}
use Rattle.lxr_graph.specs.declared.Op.TheVariants as op
use Rattle.lxr_graph.specs.declared.Reply.{Reply}
use Rattle.lxr_graph.specs.Names.{has}
use Rattle.lxr_graph.specs.State.{Object, State, next_name, object_at, refs_of, register_at, register_index, shape_of}
use Rattle.lxr_graph.specs.Step.{step}
use Rattle.lxr_image.specs.declared.space.Space.{Space}
use Rattle.lxr_image.specs.Image.{place_word}
use Rattle.lxr_image.specs.Registers.{with_row}
use Rattle.lxr_image.specs.Spaces.{IsInUsedBlock, tables_of}
use Rattle.lxr_image.specs.Tables.{Tables}
use Rattle.lxr_blocks.specs.Placing.{IsFull, IsPlaced}
use Rattle.lxr_model.specs.Moments.{Moment, after_call}
use Rattle.lxr_model_counting.specs.Distinct.{has_field}
use Rattle.lxr_invariant.specs.AbstractState.{AbstractState, members}
use Rattle.lxr_invariant.specs.Quiescent.{IsAtRest}
use Rattle.lxr_placing.specs.Placing.{with_register}
use Rattle.lxr_direct.specs.declared.reading.Base.{Base}
use Rattle.lxr_direct.specs.declared.Operated.{Operated}
use Rattle.lxr_direct.specs.declared.Operated.TheVariants as came

-- Thread t may do an operation: the space is at rest for a state, no trace runs, and the thread's next object has this serial.
pub record MayOperate (s : Space) (g : AbstractState) (t serial : ℕ) : Type 0 where
  pub rests : IsAtRest s g
  pub untraced : g.moment.trace ≡ None
  pub thread : (1 ≤ t) × (t ≤ s.limits.threads)
  pub next : next_name g.moment.state.graph t ≡ record { thread = t; serial = serial }

-- nil, or a name whose object stands in the heap
abbrev pub IsNilOrMember : Moment → Option Name → Type 0
IsNilOrMember m None = Unit {0}
IsNilOrMember m (Some n) = IsTrue (has (members m) n)

-- a place is that of nil, or of an object that stands in the heap
pub record IsPlaceOf (s : Space) (g : AbstractState) (place : Place) (v : Option Name) : Type 0 where
  pub rests : IsAtRest s g
  pub member : IsNilOrMember g.moment v
  pub stands : place.0 ≡ place_word g.at v

-- the object of a name stands at a place, and has a shape
pub record StandsAt (g : AbstractState) (place : Place) (v : Option Name) (name : Name) (shape : Shape) : Type 0 where
  pub object : Object
  pub is : v ≡ Some name
  pub member : IsTrue (has (members g.moment) name)
  pub there : object_at g.moment.state.graph name ≡ Some object
  pub stands : place.0 ≡ g.at name
  pub shaped : shape ≡ shape_of object

-- what is told of a place: nothing of nil, and else the name and the shape of the object there
abbrev pub Tells : AbstractState → Place → Option Name → Option (Name × Shape) → Type 0
Tells g place v None = v ≡ None
Tells g place v (Some (name, shape)) = StandsAt g place v name shape

-- what the base register of an operation holds: nil, or an object that stands at a place and has a shape
abbrev pub IsBase : AbstractState → ℕ → ℕ → Option Base → Type 0
IsBase g t register None = register_at g.moment.state t register ≡ None
IsBase g t register (Some base) = (name : Name) × StandsAt g base.place (register_at g.moment.state t register) name base.shape

-- the shape of an object, where one was found
abbrev pub shape_found : Option Object → Shape
shape_found None = record { refs = 0; values = 0 }
shape_found (Some o) = shape_of o

-- what is held, by its name and the shape of its object; nothing of nil
abbrev pub named_shape : State → Option Name → Option (Name × Shape)
named_shape s None = None
named_shape s (Some n) = Some (n, shape_found (object_at s.graph n))

-- an object of this shape at its place lies inside the heap, its fields in a block that has a word that isn't 0
pub record LiesInside (s : Space) (base : Base) : Type 0 where
  pub place : IsPlace base.place
  pub words : first_word base.place.0 + 1 + base.shape.refs + base.shape.values ≤ WORDS_IN_BLOCK * s.limits.blocks
  pub used : (w : ℕ) → first_word base.place.0 < w → w ≤ first_word base.place.0 + base.shape.refs + base.shape.values → IsInUsedBlock s w

-- some state and serial make it so
abbrev pub CanOperate : Space → ℕ → Type 0
CanOperate s t = (g : AbstractState) × (serial : ℕ) × MayOperate s g t serial

-- ---- registers

-- the space whose registers hold these places
abbrev pub with_places : Space → List Place → Space
with_places s places = record s { registers = record s.registers { items = places } }

-- the 256 registers of thread t are nil
abbrev pub without_registers : List Place → ℕ → List Place
without_registers places t = with_row places (t - 1) (replicate REGISTERS nil)

-- ---- which operations there are

-- An operation of the first version of scripts. The read-modify-write operations of the second serve threads that run side by side.
abbrev pub IsOfFirstVersion : Op → Type 0
IsOfFirstVersion (op.Swap dest base index source) = ⊥
IsOfFirstVersion (op.Add base index value) = ⊥
IsOfFirstVersion o = Unit {0}

-- ---- when an operation can't be done

-- the object that the operation makes finds neither lines that are left nor free ones
abbrev pub FindsNoRoom : Space → Op → Type 0
FindsNoRoom s (op.New dest shape) = IsFull s shape
FindsNoRoom s o = ⊥

-- Reference i of what a register of thread t holds has to be recorded before it is stored to: it is one of an unreclaimed object, and wasn't
-- stored to since the last pause.
pub record IsToRecord (m : Moment) (t register i : ℕ) : Type 0 where
  pub name : Name
  pub held : register_at m.state t register ≡ Some name
  pub unreclaimed : IsTrue (has m.unreclaimed name)
  pub within : i < length (refs_of (object_at m.state.graph name))
  pub unwritten : has_field m.written (name, i) ≡ false

-- the log has as many entries as it may have
abbrev pub LogIsFull : Space → Type 0
LogIsFull s = s.limits.threads * s.limits.log ≤ length s.logged.items

-- the operation is a store that has to record what it overwrites, and the log has no room for it
abbrev pub FindsLogFull : Space → Moment → ℕ → Op → Type 0
FindsLogFull s m t (op.Store base i source) = IsToRecord m t base i × LogIsFull s
FindsLogFull s m t o = ⊥

-- ---- what comes of it

-- the abstract state after a call of thread t, with objects at these places
abbrev pub called : AbstractState → ℕ → Op → Reply → (Name → ℕ) → AbstractState
called g t o r at = record g { moment = after_call g.moment t o r; at = at }

-- of a space, the words, what registers hold, the log and the rest of the lines that were placed on last may have changed
abbrev pub KeepsBeside : Space → Space → Type 0
KeepsBeside before after = after ≡ record before {
  words = after.words;
  registers = record before.registers { items = after.registers.items };
  logged = record before.logged { items = after.logged.items };
  rest_next = after.rest_next;
  rest_end = after.rest_end;
}

-- of the tables, heap words and unlogged bits may have changed
abbrev pub KeepsTables : Tables → Tables → Type 0
KeepsTables t u = u ≡ record t { heap = u.heap; unlogged = u.unlogged }

-- An object was placed, on what is left of the lines that were placed on last or on the first lines that fit it, and then a register got its place.
pub record IsPlacedIn (before after : Space) (register : ℕ) (name : Name) (shape : Shape) : Type 0 where
  pub place : Place
  pub placed : Space
  pub places : IsPlaced before placed name shape place
  pub held : after ≡ with_register placed register place

-- What an operation of thread t leaves of the space: a `new` has its object placed and its register hold it, and changes nothing else. Of the
-- tables any other operation changes heap words and unlogged bits alone.
abbrev pub Leaves : Space → Space → State → ℕ → Op → Type 0
Leaves before after s t (op.New dest shape) = IsPlacedIn before after (register_index t dest) (next_name s.graph t) shape
Leaves before after s t o = KeepsTables (tables_of before) (tables_of after)

-- It was done: the reply is that of a step of the model, the space is at rest for the state after it, and all objects stand where they did.
pub record IsDone (before after : Space) (g : AbstractState) (t : ℕ) (o : Op) (r : Reply) : Type 0 where
  pub reply : r ≡ (step g.moment.state t o).1
  pub at : Name → ℕ
  pub stay : (n : Name) → IsTrue (has (members g.moment) n) → at n ≡ g.at n
  pub rests : IsAtRest after (called g t o r at)
  pub keeps : KeepsBeside before after
  pub leaves : Leaves before after g.moment.state t o

-- An operation is done exactly where it finds room and its log isn't full; else nothing has changed.
abbrev pub Operates : Space → Space → AbstractState → ℕ → Op → Operated → Type 0
Operates before after g t o (came.Replied r) = IsDone before after g t o r × ¬ FindsNoRoom before o × ¬ FindsLogFull before g.moment t o
Operates before after g t o came.NoRoom = FindsNoRoom before o × (after ≡ before)
Operates before after g t o came.LogFull = FindsLogFull before g.moment t o × (after ≡ before)
