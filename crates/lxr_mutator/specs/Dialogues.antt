-- What a thread is asked for, and what it has replied.
use Rattle.std.specs.Prelude.{ℕ, ◌+◌, ◌-◌, ◌/◌, Bool, nat_le, nat_lt, if◌then◌else◌, Option, List, [], ◌∷◌, ◌++◌, drop, length, slice_get, slice_index_or}
use Rattle.lxr_base.specs.Roomy.{Roomy, emptied, pushed}
use Rattle.lxr_graph.specs.declared.Op.{Op}
use Rattle.lxr_graph.specs.declared.Op.TheVariants as op
use Rattle.lxr_graph.specs.declared.Reply.{Reply}
use Rattle.lxr_alloc.specs.declared.TheConstants.{MOST_OPERATIONS}

-- its operations and its replies, in order
pub record Dialogue : Type 0 where
  pub operations : List Op
  pub replies : Roomy Reply

-- as it begins: these operations, and room for the replies to so many and to the thread's end
abbrev pub first_dialogue : List Op → ℕ → Dialogue
first_dialogue operations most = record { operations = operations; replies = record { items = []; room = most + 1 } }

-- the operation whose turn it is: the first without a reply, and the thread's end once all have one
abbrev pub op_at_hand : Dialogue → Op
op_at_hand d = slice_index_or d.operations (length d.replies.items) op.End

-- the newest reply, if there is one
abbrev pub newest : Dialogue → Option Reply
newest d = slice_get d.replies.items (length d.replies.items - 1)

-- The most operations of a thread of this number: 67,108,864, and a sixteenth of that after the sixteenth thread, so that all threads together do
-- fewer than 2^31.
abbrev pub most_operations : ℕ → ℕ
most_operations thread = if nat_le thread 16 then MOST_OPERATIONS else MOST_OPERATIONS / 16

-- There is room for one more operation with its reply, beside that of the thread's end and one to spare. A live thread has that as long as it has
-- fewer than the most operations, one of a script never.
abbrev pub has_more_room : Dialogue → Bool
has_more_room d = nat_lt (length d.operations + 2) d.replies.room

-- begun anew: the operations that have no reply, and no replies
abbrev pub begun_anew : Dialogue → Dialogue
begun_anew d = record { operations = drop (length d.replies.items) d.operations; replies = emptied d.replies }

-- one more operation
abbrev pub with_op : Dialogue → Op → Dialogue
with_op d o = record d { operations = d.operations ++ o ∷ [] }

-- one more reply
abbrev pub with_reply : Dialogue → Reply → Dialogue
with_reply d r = record d { replies = pushed d.replies r }
