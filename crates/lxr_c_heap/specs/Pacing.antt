-- When a pause is due: by the bytes of the objects that were made since the last pause.
use Rattle.std.specs.Prelude.{ℕ, ◌+◌, ◌*◌, ◌/◌, ◌≤◌, ◌==◌, if◌then◌else◌, min, max, Option, None, Some, List, [], ◌∷◌}
use Rattle.lxr_layout.specs.Objects.{word_count}
use Rattle.lxr_graph.specs.declared.Op.TheVariants as op
use Rattle.lxr_graph.specs.declared.Reply.TheVariants as reply
use Rattle.lxr_large_model.specs.declared.LargeOp.{LargeOp}
use Rattle.lxr_large_model.specs.declared.LargeOp.TheVariants as large_op
use Rattle.lxr_large_model.specs.declared.LargeReply.{LargeReply}
use Rattle.lxr_large_model.specs.declared.LargeReply.TheVariants as large_reply
use Rattle.lxr_large_model.specs.History.{LargeItem, Called, Paused, Renewed}
use Rattle.lxr_large_model.specs.State.{handle}
use Rattle.lxr_c_heap.specs.declared.pacing.Pace.{Pace}
use Rattle.lxr_c_heap.specs.declared.pacing.Pace.TheVariants as pace
use Rattle.lxr_c_heap.specs.declared.pacing.TheConstants.{LEAST_PACE, MOST_PACE}
use Rattle.lxr_c_heap.specs.declared.room.Room.{Room}
use Rattle.lxr_c_heap.specs.Rooms.{room_limit}

-- ---- bytes

-- the bytes of the new object of which a reply tells, as the heap takes it: of its header and fields, in whole granules, and of its body
abbrev pub bytes_by : LargeOp → LargeReply → ℕ
bytes_by (large_op.Small (op.New dest shape)) (large_reply.Small (reply.New n)) = 8 * word_count shape
bytes_by (large_op.Big dest blocks) (large_reply.Big n) = 8 * word_count handle + 32768 * blocks
bytes_by o r = 0

-- the bytes of the objects that were made since the last pause of a history
abbrev pub bytes_made : List LargeItem → ℕ
bytes_made [] = 0
bytes_made (Called o r ∷ h) = bytes_made h + bytes_by o r
bytes_made (Paused report ∷ h) = 0
bytes_made (Renewed ns ∷ h) = bytes_made h

-- ---- paces

-- the pace that a program gives by a number of bytes: 0 is never, and the greatest number by the room there is
abbrev pub pace_of : ℕ → Pace
pace_of n = if n == 0 then pace.Never else (if n == 18446744073709551615 then pace.Room else pace.Bytes n)

-- The bytes of new objects after which a pause is due by a pace, of a heap that the last pause left with so many free blocks: so many as were told, or
-- half of those of the free blocks, within two bounds.
abbrev pub limit_of : Pace → ℕ → Option ℕ
limit_of pace.Never free = None
limit_of (pace.Bytes n) free = Some n
limit_of pace.Room free = Some (max (min (32768 * free / 2) MOST_PACE) LEAST_PACE)

-- the lesser of two limits, where there are both
abbrev pub lesser : Option ℕ → Option ℕ → Option ℕ
lesser None b = b
lesser (Some a) None = Some a
lesser (Some a) (Some b) = Some (min a b)

-- a pause is due by the pace, or by the room
abbrev pub due_after : Pace → Room → ℕ → Option ℕ
due_after p r free = lesser (limit_of p free) (room_limit r free)

-- a limit is reached by so many bytes; where there is none, by no number
abbrev pub IsReached : Option ℕ → ℕ → Type 0
IsReached None n = ⊥
IsReached (Some limit) n = limit ≤ n
