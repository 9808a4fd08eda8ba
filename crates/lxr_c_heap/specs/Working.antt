-- How a heap does some of the next pause's decrements by itself: in slices, each after so many bytes of new objects.
use Rattle.std.specs.Prelude.{◌≡◌, ℕ, ◌+◌, ◌*◌, ◌≤◌, ◌==◌, ◌⊎◌, if◌then◌else◌, min, Bool, true, false, Option, None, Some, List, unwrap_or}
use Rattle.lxr_pause_decrements.specs.declared.slices.Slice.{Slice}
use Rattle.lxr_pause_decrements.specs.declared.slices.Slice.TheVariants.{Done, Spent, Held}
use Rattle.lxr_large_model.specs.History.{LargeItem}
use Rattle.lxr_heap.specs.Working.{WorksHeap}
use Rattle.lxr_c_heap.specs.declared.host.HostHeap.{HostHeap}
use Rattle.lxr_c_heap.specs.declared.working.TheConstants.{MOST_WORK, SLICE_BYTES, SLICE_PARTS}
use Rattle.lxr_c_heap.specs.declared.pacing.Pace.{Pace}
use Rattle.lxr_c_heap.specs.declared.room.Room.{Room}
use Rattle.lxr_c_heap.specs.Pacing.{IsReached, bytes_made, due_after, lesser}
use Rattle.lxr_c_heap.specs.Rooms.{free_in, room_limit}

-- The bytes of new objects after which the next slice is due, of a heap that does so many units for each 64 bytes, where so many bytes were made:
-- one that does none has no slices.
abbrev pub slice_from : ℕ → ℕ → Option ℕ
slice_from work bytes = if work == 0 then None else Some (bytes + SLICE_BYTES)

-- a slice that is due by the limit of a pause at the latest
abbrev pub sooner : Option ℕ → Option ℕ → Option ℕ
sooner None limit = None
sooner (Some slice) None = Some slice
sooner (Some slice) (Some limit) = Some (min slice limit)

-- The first slice after a pause, or after the work was set, where so many bytes were made by then: so it is due. The further ones come by
-- `slice_from` alone.
abbrev pub first_slice : ℕ → ℕ → Option ℕ → Option ℕ
first_slice work bytes limit = sooner (slice_from work bytes) limit

-- the next slice after one: where that left nothing for a slice to do, none is due before the next pause
abbrev pub slice_after : Slice → Option ℕ → Option ℕ
slice_after Spent next = next
slice_after Done next = None
slice_after Held next = None

-- slices have more to do, where one ended with something that it could have done by further units
abbrev pub has_more : Slice → Bool
has_more Spent = true
has_more Done = false
has_more Held = false

-- how many bytes of new objects are made before a slice or a pause is looked for: by the pace a pause waits for the slices, and by the room for none
abbrev pub turn_of : Option ℕ → Option ℕ → Option ℕ → ℕ
turn_of None limit brink = unwrap_or (lesser limit brink) 18446744073709551615
turn_of (Some slice) limit brink = unwrap_or (lesser (Some slice) brink) 18446744073709551615

-- a slice is due before an object is made
abbrev pub IsSliceDue : HostHeap → List LargeItem → Type 0
IsSliceDue x h = IsReached x.slice (bytes_made h)

-- A slice of so many units was done and ended so, and for the history nothing has happened. The next one is due by what is told, where there is more
-- to do.
pub record Works (x y : HostHeap) (h : List LargeItem) (units : ℕ) (next : Option ℕ) (slice : Slice) : Type 0 where
  pub heap : WorksHeap x.heap y.heap h units slice
  pub rest : y ≡ record x { heap = y.heap; slice = slice_after slice next; turn = turn_of (slice_after slice next) x.limit x.brink }

-- the slice that is due was done, with as many units as its bytes ask for, or none is due and nothing has changed
abbrev pub WorksWhere : HostHeap → List LargeItem → HostHeap → Type 0
WorksWhere x h y = (IsSliceDue x h × (slice : Slice) × Works x y h (SLICE_PARTS * x.work) (slice_from x.work (bytes_made h)) slice) ⊎ (¬ IsSliceDue x h × (y ≡ x))

-- A slice was done that was asked for, and it is told whether there is more to do: when the next one is due by itself stays, where there is.
abbrev pub WorksAsked : ℕ → HostHeap → HostHeap → List LargeItem → Bool → Type 0
WorksAsked units x y h more = (slice : Slice) × Works x y h units x.slice slice × (more ≡ has_more slice)

-- A heap does no more units by itself than are allowed, and looks for slices and pauses where the next one is due.
abbrev pub IsTimed : HostHeap → Type 0
IsTimed x = (x.work ≤ MOST_WORK) × (x.turn ≡ turn_of x.slice x.limit x.brink)

-- ---- settings

-- the heap with another limit and another brink, and its next slice by the limit at the latest
abbrev pub limited : Option ℕ → Option ℕ → HostHeap → HostHeap
limited limit brink x = record x { limit = limit; brink = brink; slice = sooner x.slice limit; turn = turn_of (sooner x.slice limit) limit brink }

-- with both set anew, by its pace and its room
abbrev pub with_limit : HostHeap → HostHeap
with_limit x = limited (due_after x.pace x.room (free_in x.heap)) (room_limit x.room (free_in x.heap)) x

-- so it is where it gets another pace, and another room
abbrev pub with_pace : Pace → HostHeap → HostHeap
with_pace pace x = with_limit (record x { pace = pace })

abbrev pub with_room : Room → HostHeap → HostHeap
with_room room x = with_limit (record x { room = room })

-- the heap that does so many units for each 64 bytes of new objects from now on
abbrev pub with_work : ℕ → HostHeap → HostHeap
with_work units x = record x { work = units; slice = first_slice units x.bytes x.limit; turn = turn_of (first_slice units x.bytes x.limit) x.limit x.brink }
