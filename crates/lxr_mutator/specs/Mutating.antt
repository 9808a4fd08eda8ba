-- What contracts see of a mutator, and what it is about to do.
use Rattle.std.specs.Prelude.{ℕ, ◌+◌, ◌-◌, ◌≡◌, Bool, true, false, ◌&&◌, if◌then◌else◌, nat_lt, Option, Some, None, List, length, slice_get, slice_index_or}
use Rattle.std.specs.List.{count_by}
use Rattle.std.specs.Option.{option_or}
use Rattle.lxr_layout.specs.declared.Place.{Place}
use Rattle.lxr_layout.specs.declared.Name.{Name}
use Rattle.lxr_layout.specs.declared.LogEntry.{LogEntry}
use Rattle.lxr_layout.specs.declared.limits.Regions.{Regions}
pub use Rattle.lxr_layout.specs.Registers.{nil}
use Rattle.lxr_base.specs.Roomy.{Roomy}
use Rattle.lxr_graph.specs.declared.Op.{Op}
use Rattle.lxr_graph.specs.declared.Op.TheVariants as op
use Rattle.lxr_graph.specs.declared.Reply.{Reply}
use Rattle.lxr_graph.specs.declared.Reply.TheVariants as reply
use Rattle.lxr_alloc.specs.declared.Spans.{Spans}
use Rattle.lxr_mutator.specs.declared.phases.MutEnd.{MutEnd}
use Rattle.lxr_mutator.specs.declared.phases.MutEnd.TheVariants as ends
use Rattle.lxr_mutator.specs.declared.phases.MutTally.{MutTally}
use Rattle.lxr_mutator.specs.declared.phases.MutatorPhase.{MutatorPhase}
use Rattle.lxr_mutator.specs.declared.phases.MutatorPhase.TheVariants as phase
use Rattle.lxr_mutator.specs.declared.phases.Waiting.{Waiting}
use Rattle.lxr_mutator.specs.Operating.{dest_of, shape_made}

-- A thread of a script, or a live one: its operations and where it runs; its log, its 256 registers and its spans; how many objects it had as it
-- began to count, and the replies since; how many operations it did since the epoch began, where its unit is, and how its last unit ended.
pub record Mutating : Type 0 where
  pub thread : ℕ
  pub operations : List Op
  pub regions : Regions
  pub every : ℕ
  -- how many of its registers it may be asked to name
  pub width : ℕ
  -- whether it tells the names of what it loads and swaps out, for which it looks at the headers
  pub names : Bool
  pub log : Roomy LogEntry
  pub registers : List Place
  pub spans : Spans
  pub before : ℕ
  pub replies : Roomy Reply
  pub since : ℕ
  pub phase : MutatorPhase
  pub end : Option MutEnd

-- the operation whose turn it is: the first without a reply, and the thread's end once all have one
abbrev pub op_now : Mutating → Op
op_now m = slice_index_or m.operations (length m.replies.items) op.End

-- what a register holds
abbrev pub register : Mutating → ℕ → Place
register m r = slice_index_or m.registers r nil

-- a reply to a `new` that made an object
abbrev pub is_new : Reply → Bool
is_new (reply.New n) = true
is_new r = false

-- a reply to a `load` that was done, or to a `swap`, which loads too
abbrev pub is_loaded : Reply → Bool
is_loaded (reply.Loaded n) = true
is_loaded (reply.Swapped n) = true
is_loaded r = false

-- a reply to a `store` that was done, or to a `swap`, which stores too
abbrev pub is_stored : Reply → Bool
is_stored reply.Stored = true
is_stored (reply.Swapped n) = true
is_stored r = false

-- the reply of its last operation, if it has done one
abbrev pub last_reply : Mutating → Option Reply
last_reply m = slice_get m.replies.items (length m.replies.items - 1)

-- the reply by which its last unit ended, if it ended with one
abbrev pub reply_in : Option MutEnd → Option Reply
reply_in (Some (ends.OpDone r)) = Some r
reply_in e = None

-- its newest reply: that of its last operation, and where it has done none since it began to count, the one by which its last unit ended
abbrev pub newest_of : Mutating → Option Reply
newest_of m = option_or (last_reply m) (reply_in m.end)

-- the reply to a `collect`
abbrev pub is_collected : Option Reply → Bool
is_collected (Some reply.Collected) = true
is_collected r = false

-- its last operation was a `collect`, and it did it in this epoch
abbrev pub has_collected : Mutating → Bool
has_collected m = nat_lt 0 m.since && is_collected (last_reply m)

-- the reply to a `pause` or to a `collect`
abbrev pub is_asked_pause : Option Reply → Bool
is_asked_pause (Some reply.Paused) = true
is_asked_pause (Some reply.Collected) = true
is_asked_pause r = false

-- its last operation was a `pause` or a `collect`, and it did it in this epoch: it has asked for a pause
abbrev pub wants_pause : Mutating → Bool
wants_pause m = nat_lt 0 m.since && is_asked_pause (last_reply m)

-- how many replies are of each of these kinds
abbrev pub tally_of : List Reply → MutTally
tally_of rs = record { news = count_by is_new rs; loads = count_by is_loaded rs; stores = count_by is_stored rs }

-- how many objects it has made, with those that it had as it began to count
abbrev pub made : Mutating → ℕ
made m = m.before + count_by is_new m.replies.items

-- the name of the next object that it makes
abbrev pub next_name : Mutating → Name
next_name m = record { thread = m.thread; serial = made m + 1 }

-- how many of its operations stand in the history, by its phase: each that has a reply, and a load or a swap that has taken its
-- reference and is yet to tell the name of what that refers to
abbrev pub placed_in : Mutating → MutatorPhase → ℕ
placed_in m (phase.Referent place) = length m.replies.items + 1
placed_in m p = length m.replies.items

-- how many of its operations stand in the history, the thread's end among them: those whose step that counts was made, or that were served or
-- refused
abbrev pub placed_count : Mutating → ℕ
placed_count m = placed_in m m.phase

-- no unit is in progress
abbrev pub rests_in : MutatorPhase → Bool
rests_in phase.Ready = true
rests_in phase.Finished = true
rests_in p = false

-- words of a new object are wiped
abbrev pub wipes_in : MutatorPhase → Bool
wipes_in (phase.Wiping place next) = true
wipes_in p = false

-- its last unit ended for want of free lines, and its `new` was since neither served nor refused
abbrev pub IsWaiting : Mutating → Type 0
IsWaiting m = (m.end ≡ Some ends.NoRun) × (rests_in m.phase ≡ true)

-- what it waits for, by how its last unit ended
abbrev pub waiting_by : Mutating → Option MutEnd → Option Waiting
waiting_by m (Some ends.NoRun) = if rests_in m.phase then Some (record { dest = dest_of (op_now m); shape = shape_made (op_now m) }) else None
waiting_by m e = None
