-- How many blocks are in use before the library collects: what the host says, and what the library sets by itself.
use Rattle.std.specs.Prelude.{ℕ, ◌+◌, ◌-◌, ◌*◌, ◌/◌, ◌==◌, nat_le, nat_lt, if◌then◌else◌, min, max, Bool, true, false, Option, None, Some, length}
use Rattle.lxr_image.specs.Spaces.{tables_of}
use Rattle.lxr_blocks.specs.Listing.{listed_frees}
use Rattle.lxr_heap.specs.declared.heap.Heap.{Heap}
use Rattle.lxr_c_heap.specs.declared.pacing.TheConstants.{LEAST_PACE}
use Rattle.lxr_c_heap.specs.declared.room.Room.{Room}
use Rattle.lxr_c_heap.specs.declared.room.TheConstants.{LEAST_ROOM}

-- the blocks of a heap that are without objects
abbrev pub free_in : Heap → ℕ
free_in x = length (listed_frees (tables_of x.space) x.space.limits.blocks)

-- the blocks in use, where so many are free: all others that are reserved
abbrev pub used_of : Room → ℕ → ℕ
used_of r free = r.reserved - free

-- as many blocks as are said, or all that are reserved where 0 is
abbrev pub blocks_said : ℕ → ℕ → ℕ
blocks_said reserved n = if n == 0 then reserved else n

-- the room of so many blocks, whatever the last collecting pause left
abbrev pub with_blocks : ℕ → Room → Room
with_blocks n r = record r { blocks = blocks_said r.reserved n; most = blocks_said r.reserved n }

-- what lives and so many hundredths more, at least 64 blocks, at most all that is reserved
abbrev pub grown : Room → ℕ → ℕ
grown r used = min (max (used + used * r.grow / 100) LEAST_ROOM) r.reserved

-- The room behind a collecting pause that left so many blocks in use. The library sets it where it is to grow. Else it is the host's, of which a
-- quarter more than what was left counts as used at the least: so a room that is too small makes no pause after pause.
abbrev pub room_behind : Room → ℕ → Room
room_behind r used = if r.grow == 0 then record r { most = min (max r.blocks (used + used / 4)) r.reserved } else record r { blocks = grown r used; most = grown r used }

-- a plain pause leaves it
abbrev pub room_after : Bool → Room → ℕ → Room
room_after true r free = room_behind r (used_of r free)
room_after false r free = r

-- more blocks are in use than the room has, where so many are free
abbrev pub is_exceeded : Room → ℕ → Bool
is_exceeded r free = nat_lt r.most (used_of r free)

-- The bytes of the blocks that the room has left, two blocks at the least; 0 where more blocks are in use, so that the next new object has a pause
-- before it; none are told where the room is all that is reserved.
abbrev pub room_limit : Room → ℕ → Option ℕ
room_limit r free =
    if nat_le r.reserved r.most then None else (if is_exceeded r free then Some 0 else Some (max (32768 * (r.most - used_of r free)) LEAST_PACE))
