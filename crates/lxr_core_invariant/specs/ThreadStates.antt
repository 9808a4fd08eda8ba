-- What a mutator shows of itself while an epoch runs: all that the invariant of the epoch reads.
use Rattle.std.specs.Prelude.{ℕ, Bool, true, false, Option, List, [], ◌∷◌, ◌++◌, length, slice_get, slice_index_or}
use Rattle.lxr_layout.specs.declared.LogEntry.{LogEntry}
use Rattle.lxr_layout.specs.declared.Place.{Place}
use Rattle.lxr_layout.specs.declared.Shape.{Shape}
use Rattle.lxr_layout.specs.Registers.{nil}
use Rattle.lxr_base.specs.Roomy.{Roomy}
use Rattle.lxr_graph.specs.declared.Op.{Op}
use Rattle.lxr_graph.specs.declared.Op.TheVariants as op
use Rattle.lxr_graph.specs.declared.Reply.{Reply}
use Rattle.lxr_alloc.specs.declared.Spans.{Spans}

-- why a mutator is through with an epoch: neither a run nor a block was left for an object, its log was full, it saw that a
-- pause is asked for, it has done as many operations as it may, or it has done its end
pub data Reason : Type 0 where
  NoRun : Reason
  LogFull : Reason
  Asked : Reason
  Turns : Reason
  Ended : Reason

-- What it is about to do in a unit whose operation doesn't stand in the history yet.
pub data Intent : Type 0 where
  -- nothing of what follows
  Plain : Intent
  -- it works on a reference of the object at a place
  AtReference : (place index : ℕ) → Intent
  -- it works on a data word of the object at a place, which has so many references
  AtValue : (place refs index : ℕ) → Intent
  -- it clears the unlogged bit of a reference that it has loaded, and logs this entry if it is the first
  Clears : LogEntry → Intent
  -- it stores to a reference, or swaps it, whose unlogged bit it saw clear, or cleared
  Stores : (place index : ℕ) → Intent
  -- it has drawn a number of the table of runs, and isn't told yet whether there is such a run; it is told that there is
  DrewRun : ℕ → Intent
  HasRun : ℕ → Intent
  -- it is to draw a block; it has drawn a number of the table of free blocks; it is told that there is such a block
  NeedsBlock : Intent
  DrewBlock : ℕ → Intent
  HasBlock : ℕ → Intent
  -- it makes an object at a place, and has wiped so many of its words behind the header's
  Makes : (place : ℕ) → Shape → (wiped : ℕ) → Intent
  -- it gives up for this epoch
  GivesUp : Reason → Intent

-- Where it is in its work.
pub data Stage : Type 0 where
  -- between two units
  Rests : Stage
  -- in a unit whose operation doesn't stand in the history yet
  Works : Intent → Stage
  -- in a unit whose load or swap stands in the history: the reply is yet to tell the name of the object at a place
  Names : (place : ℕ) → Stage
  -- it makes no further step in this epoch
  Through : Reason → Stage

-- A mutator: its thread and the thread's operations, its registers, its log, what it has drawn and not yet filled, how many objects it had as it
-- began to count, the replies since, how many operations it may do between two pauses and has done in this epoch, and where it is.
pub record ThreadState : Type 0 where
  pub thread : ℕ
  pub operations : List Op
  pub registers : List Place
  pub log : Roomy LogEntry
  pub spans : Spans
  pub before : ℕ
  pub replies : List Reply
  pub every : ℕ
  pub since : ℕ
  pub stage : Stage

-- the operations of a thread and its end
abbrev pub all_of : List Op → List Op
all_of operations = operations ++ op.End ∷ []

-- the operation that is in progress or, between two units, comes next
abbrev pub op_now : ThreadState → Option Op
op_now v = slice_get (all_of v.operations) (length v.replies)

-- the place that a register holds
abbrev pub held : ThreadState → ℕ → Place
held v r = slice_index_or v.registers r nil

-- the end is no operation
abbrev pub is_end : Op → Bool
is_end op.End = true
is_end _ = false
