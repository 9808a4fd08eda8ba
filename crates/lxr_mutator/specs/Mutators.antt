-- What holds of each mutator, and what becomes of it between its steps.
use Rattle.std.specs.Prelude.{◌≡◌, ◌≢◌, ℕ, ◌+◌, ◌/◌, ◌^◌, ◌<◌, ◌≤◌, ◌⊎◌, Bool, true, false, if◌then◌else◌, nat_le, Option, Some, None, List, [], drop, length, replicate}
use Rattle.std.specs.List.{All}
use Rattle.lxr_layout.specs.declared.TheConstants.{MOST_GRANULES, REGISTERS}
use Rattle.lxr_layout.specs.declared.Place.{Place}
use Rattle.lxr_layout.specs.declared.Shape.{Shape}
use Rattle.lxr_layout.specs.declared.LogEntry.{LogEntry}
use Rattle.lxr_layout.specs.declared.limits.Limits.{Limits}
use Rattle.lxr_layout.specs.declared.limits.Regions.{Regions}
use Rattle.lxr_layout.specs.Objects.{word_count, line_count}
use Rattle.lxr_layout.specs.Places.{IsPlace}
use Rattle.lxr_layout.specs.Spaces.{regions_of}
use Rattle.lxr_base.specs.Roomy.{Roomy, emptied, pushed}
use Rattle.lxr_graph.specs.declared.Op.{Op}
use Rattle.lxr_graph.specs.declared.Op.TheVariants as op
use Rattle.lxr_graph.specs.declared.Reply.{Reply}
use Rattle.lxr_graph.specs.declared.Reply.TheVariants as reply
use Rattle.lxr_graph.specs.Step.{IsFormedFor}
use Rattle.lxr_alloc.specs.declared.TheConstants.{MOST_OPERATIONS}
use Rattle.lxr_alloc.specs.declared.Spans.{Spans}
use Rattle.lxr_alloc.specs.Spans.{FitsSpan, empty_span}
use Rattle.lxr_barrier.specs.Storing.{end_of}
use Rattle.lxr_barrier.specs.Storers.{HasRoomIn}
use Rattle.lxr_mutator.specs.declared.phases.MutEnd.{MutEnd}
use Rattle.lxr_mutator.specs.declared.phases.MutEnd.TheVariants as ends
use Rattle.lxr_mutator.specs.declared.phases.MutatorPhase.{MutatorPhase}
use Rattle.lxr_mutator.specs.declared.phases.MutatorPhase.TheVariants as phase
use Rattle.lxr_mutator.specs.Dialogues.{most_operations, Dialogue, first_dialogue}
use Rattle.lxr_layout.specs.Registers.{AreNil}
use Rattle.lxr_mutator.specs.Mutating.{Mutating, next_name, nil, op_now, rests_in}
use Rattle.lxr_mutator.specs.Steps.{shape_now, with_register}
use Rattle.lxr_mutator.specs.Operating.{dest_of}

-- an operation that a thread with so many registers may be asked for: no end
abbrev pub IsOperation : ℕ → Op → Type 0
IsOperation width o = IsFormedFor width o × (o ≢ op.End)

-- nil or a place
abbrev pub IsHeld : Place → Type 0
IsHeld p = p.0 ≤ MOST_GRANULES

-- no granules left, and none to give back
abbrev pub no_spans : Spans
no_spans = record { current = empty_span; overflow = empty_span }

-- the granules of its spans are granules of the largest heap
abbrev pub AreInHeap : Spans → Type 0
AreInHeap s = (s.current.end ≤ MOST_GRANULES) × (s.overflow.end ≤ MOST_GRANULES)

-- the words of tables and cursors have indexes of 32 bits
pub record HaveIndexes (r : Regions) : Type 0 where
  pub unlogged : r.unlogged + r.counts / 64 < 2 ^ 32
  pub frees : r.frees < 2 ^ 32
  pub decs : r.decs < 2 ^ 32
  pub cursors : r.cursors + 16 < 2 ^ 32

-- an object of this shape has one line, and `current` has no room for it
abbrev pub NeedsRun : Spans → Shape → Type 0
NeedsRun spans shape = (line_count shape ≤ 1) × ¬ FitsSpan spans.current shape

-- `current` has no room for an object of this shape
abbrev pub NeedsBlock : Spans → Shape → Type 0
NeedsBlock spans shape = ¬ FitsSpan spans.current shape

module _ (r : Regions) (log : Roomy LogEntry) (spans : Spans) (shape : Shape) where
  -- what holds in a phase of a mutator with these regions, this log and these spans, whose `new` makes this shape
  abbrev pub IsIn : MutatorPhase → Type 0
  IsIn phase.Ready = Unit {0}
  IsIn phase.Finished = Unit {0}
  IsIn (phase.Base base) = IsPlace base
  IsIn (phase.Reference base) = IsPlace base
  IsIn (phase.Referent place) = IsPlace place
  IsIn (phase.Datum base refs) = IsPlace base
  IsIn (phase.Putting base refs) = IsPlace base
  IsIn (phase.Adding base refs) = IsPlace base
  IsIn (phase.Storing store) = HasRoomIn store.phase log × (end_of store ≡ None)
  IsIn phase.DrawsRun = NeedsRun spans shape
  IsIn (phase.RunNumber number) = NeedsRun spans shape
  IsIn (phase.Run number) = NeedsRun spans shape × (r.runs + number < r.frees)
  IsIn phase.DrawsBlock = NeedsBlock spans shape
  IsIn (phase.BlockNumber number) = NeedsBlock spans shape
  IsIn (phase.Block number) = NeedsBlock spans shape × (r.frees + number < r.decs)
  IsIn (phase.Wiping place next) = IsPlace place × ((1 ≤ next) × (next < word_count shape))
  IsIn (phase.Heading place) = IsPlace place
  IsIn phase.Asking = Unit {0}
  IsIn (phase.GivingUp why) = Unit {0}

-- what holds in this phase, were it the mutator's
abbrev pub MayBeIn : Mutating → MutatorPhase → Type 0
MayBeIn m = IsIn m.regions m.log m.spans (shape_now m)

-- its end is done
abbrev pub IsThrough : Mutating → Type 0
IsThrough m = (m.phase ≡ phase.Finished) × (m.end ≡ Some ends.Ended)

-- What no step of a mutator changes: its thread, what that is asked for and the room for its replies, the regions of its space, how many operations it
-- may do in an epoch, how many registers it may be asked to name, whether it tells names, and how many objects it had as it began to count.
pub record Setup : Type 0 where
  pub thread : ℕ
  pub operations : List Op
  pub room : ℕ
  pub regions : Regions
  pub every : ℕ
  pub width : ℕ
  pub names : Bool
  pub before : ℕ

-- that of a mutator
abbrev pub setup_of : Mutating → Setup
setup_of m = record { thread = m.thread; operations = m.operations; room = m.replies.room; regions = m.regions; every = m.every; width = m.width; names = m.names; before = m.before }

-- what holds of it
pub record IsSetup (s : Setup) : Type 0 where
  pub thread : (1 ≤ s.thread) × (s.thread ≤ 255)
  pub width : (1 ≤ s.width) × (s.width ≤ REGISTERS)
  pub operations : All (IsOperation s.width) s.operations
  pub few : length s.operations ≤ MOST_OPERATIONS
  -- there is room for each reply, that of the thread's end too
  pub room : length s.operations + 1 ≤ s.room
  -- and for no more than a thread of this number may have, with its end and one to spare
  pub most : s.room ≤ most_operations s.thread + 2
  pub indexes : HaveIndexes s.regions
  pub every : (1 ≤ s.every) × (s.every ≤ 1048576)
  -- no more objects were left than a heap has granules
  pub before : s.before ≤ MOST_GRANULES

-- 256 registers, each of which holds nil or a place; those that it may not name are nil
pub record AreRegisters (width : ℕ) (places : List Place) : Type 0 where
  pub as_many : length places ≡ REGISTERS
  pub held : All IsHeld places
  pub unnamed : AreNil places width REGISTERS

-- what holds of each mutator
pub record IsMutator (m : Mutating) : Type 0 where
  pub setup : IsSetup (setup_of m)
  pub registers : AreRegisters m.width m.registers
  pub spans : AreInHeap m.spans
  pub few_replies : length m.replies.items ≤ length m.operations + 1
  pub replies : IsThrough m ⊎ (length m.replies.items ≤ length m.operations)
  -- a unit that is in progress, or that ended for want of lines, is that of an operation
  pub busy : rests_in m.phase ≡ false → length m.replies.items < length m.operations
  pub waits : m.end ≡ Some ends.NoRun → length m.replies.items < length m.operations
  -- it goes on only where it may do a further operation in this epoch
  pub since : m.phase ≢ phase.Finished → m.since < m.every
  pub phase : MayBeIn m m.phase

-- it is in this phase of an operation
pub record IsBusy (m : Mutating) (p : MutatorPhase) : Type 0 where
  pub phase : m.phase ≡ p
  pub operation : length m.replies.items < length m.operations
  pub may : MayBeIn m p

-- where a unit is in progress by this phase, the operation is the one whose turn it is
abbrev pub IsAskedIn : MutatorPhase → Op → Op → Type 0
IsAskedIn p o now = rests_in p ≡ false → o ≡ now

-- a mutator as it is made, with this agenda
abbrev pub first_with : ℕ → Dialogue → Limits → ℕ → Bool → Mutating
first_with thread agenda limits every names = record {
  thread = thread;
  operations = agenda.operations;
  regions = regions_of limits;
  every = every;
  width = limits.registers;
  names = names;
  log = record { items = []; room = limits.log };
  registers = replicate REGISTERS nil;
  spans = no_spans;
  before = 0;
  replies = agenda.replies;
  since = 0;
  phase = phase.Ready;
  end = None;
}

-- with these operations, and with room for so many in all
abbrev pub first_of : ℕ → List Op → Limits → ℕ → ℕ → Bool → Mutating
first_of thread operations limits every most names = first_with thread (first_dialogue operations most) limits every names

-- one of a script: it has all its operations, and no room for others, and tells names
abbrev pub first : ℕ → List Op → Limits → ℕ → Mutating
first thread operations limits every = first_of thread operations limits every (length operations) true

-- one that is yet to be ordered its operations: it has room for one more than a thread of this number may have, so there always is room
abbrev pub first_live : ℕ → Limits → ℕ → Bool → Mutating
first_live thread limits every names = first_of thread [] limits every (most_operations thread + 1) names

-- It has no room for a further operation, as a mutator of a script, which is made with all of its own. A live one always has.
abbrev pub IsFull : Mutating → Type 0
IsFull m = m.replies.room ≤ length m.operations + 1

-- It takes an order where it is between two operations and may do a further one in this epoch, each operation that it has is done, for an
-- operation as those of a script, and while there is room for that and its reply.
pub record MayTakeOrder (m : Mutating) (o : Op) : Type 0 where
  pub ready : m.phase ≡ phase.Ready
  pub idle : length m.operations ≤ length m.replies.items
  pub operation : IsOperation m.width o
  pub room : length m.operations + 2 < m.replies.room

-- its `new` is done from outside with this reply, in no turn of its own
abbrev pub answered : Mutating → Reply → Mutating
answered m r = record m { replies = pushed m.replies r; end = Some (ends.OpDone r) }

-- this place, or nil where the largest heap has no such place
abbrev pub held_place : Place → Place
held_place p = if nat_le p.0 (MOST_GRANULES) then p else nil

-- its `new` is done from outside: the register that it names holds the new object's place, and the reply is the object's name
abbrev pub served : Mutating → Place → Mutating
served m place = answered (with_register m (dest_of (op_now m)) (held_place place)) (reply.New (next_name m))

-- its `new` was refused, or served with a place
abbrev pub IsAnswered : Mutating → Mutating → Reply → Type 0
IsAnswered m m' r = ((r ≡ reply.Full) × (m' ≡ answered m r)) ⊎ ((place : Place) × (r ≡ reply.New (next_name m)) × (m' ≡ served m place))

-- Names were given anew, and of its thread there are so many objects now: from here on it is asked for the operation that is open, if one is, and
-- has no replies.
abbrev pub renewed : Mutating → ℕ → Mutating
renewed m before = record m { operations = drop (length m.replies.items) m.operations; replies = emptied m.replies; before = before }

-- where a new epoch finds it
abbrev pub phase_again : Option MutEnd → MutatorPhase
phase_again (Some ends.Ended) = phase.Finished
phase_again e = phase.Ready

-- a new epoch begins, with these registers
abbrev pub again : Mutating → List Place → Mutating
again m registers = record m { registers = registers; since = 0; phase = phase_again m.end }
