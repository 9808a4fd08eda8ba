-- What a program's heap does at a call, with the pauses that it makes by itself: each for a cause.
use Rattle.std.specs.Prelude.{◌≡◌, ℕ, ◌+◌, ◌*◌, ◌%◌, ◌^◌, ◌<◌, ◌≤◌, ◌⊎◌, nat_le, if◌then◌else◌, Bool, true, false, Option, None, Some, List, ◌∷◌}
use Rattle.lxr_graph.specs.History.{report_of}
use Rattle.lxr_large_model.specs.declared.LargeOp.{LargeOp}
use Rattle.lxr_large_model.specs.declared.LargeReply.{LargeReply}
use Rattle.lxr_large_model.specs.History.{LargeItem, Paused, Renewed, large_moment}
use Rattle.lxr_heap.specs.Acting.{FindsNoLog, FindsNoPlace, IsReplied}
use Rattle.lxr_heap.specs.Holding.{IsHeapOf, IsOpenedHeap}
use Rattle.lxr_heap.specs.Pausing.{PausesHeap}
use Rattle.lxr_heap.specs.Renewing.{RenewsHeap}
use Rattle.lxr_c_heap.specs.declared.host.Ends.{Ends}
use Rattle.lxr_c_heap.specs.declared.host.TheConstants.{ENDS}
use Rattle.lxr_c_heap.specs.declared.host.HostHeap.{HostHeap}
use Rattle.lxr_c_heap.specs.declared.own.OwnRegisters.{OwnRegisters}
use Rattle.lxr_c_heap.specs.declared.room.Room.{Room}
use Rattle.lxr_c_heap.specs.declared.settings.Settings.{Settings}
use Rattle.lxr_layout.specs.declared.TheConstants.{LEAST_REGISTERS}
use Rattle.lxr_c_heap.specs.declared.settings.TheConstants.{OWN_REGISTERS}
use Rattle.lxr_c_heap.specs.Pacing.{IsReached, bytes_by, bytes_made, due_after, pace_of}
use Rattle.lxr_c_heap.specs.Rooms.{free_in, is_exceeded, room_after, room_limit}
use Rattle.lxr_c_heap.specs.Settings.{registers_of, room_of, sizes_of, work_said}
use Rattle.lxr_c_heap.specs.Working.{IsTimed, WorksWhere, first_slice, turn_of}

-- ---- a heap that serves

-- how many registers the host may name
abbrev pub registers_in : HostHeap → ℕ
registers_in x = x.named

-- how many registers there are: the host's, and behind them those of the library's own, where there are any
abbrev pub all_registers_in : HostHeap → ℕ
all_registers_in x = x.heap.space.limits.registers

-- the two registers of the library's own, where there is room for them
abbrev pub own_in : HostHeap → Option OwnRegisters
own_in x = if nat_le (registers_in x + OWN_REGISTERS) (all_registers_in x) then Some (record { first = registers_in x; second = registers_in x + 1 }) else None

-- The heap of a program is that of a history: so is the heap in it, the bytes are those of the objects that were made since the last pause, and the
-- registers that the host may name are there.
pub record IsHostOf (x : HostHeap) (h : List LargeItem) : Type 0 where
  pub heap : IsHeapOf x.heap h
  pub bytes : x.bytes ≡ bytes_made h
  pub named : (LEAST_REGISTERS ≤ registers_in x) × (registers_in x ≤ all_registers_in x)

-- A heap of some history, of which so many more objects and pauses can be made: names have serials, and reports numbers, of 32 bits. No object
-- takes 8 MB, so the bytes of new ones have a number of 64 bits. Slices and pauses are looked for where one is due.
pub record HasRoom (objects pauses : ℕ) (x : HostHeap) : Type 0 where
  pub holds : ∥ ((h : List LargeItem) × IsHostOf x h) ∥₁
  pub made : x.heap.made + objects < 2 ^ 32
  pub paused : x.heap.space.pauses + pauses < 2 ^ 32
  pub bytes : x.bytes ≤ 8388608 * x.heap.made
  pub timed : IsTimed x

-- It can serve each call: an object can be made, and a pause.
abbrev pub IsServing : HostHeap → Type 0
IsServing = HasRoom 1 1

-- the limit of a heap that was opened with settings, and how much of it is the room's
abbrev pub limit_first : HostHeap → Settings → Option ℕ
limit_first x s = due_after (pace_of s.pace) (room_of s) (free_in x.heap)

abbrev pub brink_first : HostHeap → Settings → Option ℕ
brink_first x s = room_limit (room_of s) (free_in x.heap)

-- a heap that was opened with settings: of their blocks and registers, and with their pace and room from the first object on
pub record IsOpened (x : HostHeap) (s : Settings) : Type 0 where
  pub heap : IsOpenedHeap x.heap (sizes_of s)
  pub rest : x ≡ record {
    heap = x.heap;
    named = registers_of s;
    pace = pace_of s.pace;
    room = room_of s;
    limit = limit_first x s;
    brink = brink_first x s;
    bytes = 0;
    work = work_said s;
    slice = first_slice (work_said s) 0 (limit_first x s);
    turn = turn_of (first_slice (work_said s) 0 (limit_first x s)) (limit_first x s) (brink_first x s);
    pauses = 0;
    seal = x.seal;
  }

-- ---- pauses

-- the room behind a pause that left y
abbrev pub room_left : HostHeap → Bool → HostHeap → Room
room_left x collect y = room_after collect x.room (free_in y.heap)

-- the limit behind it
abbrev pub limit_left : HostHeap → Bool → HostHeap → Option ℕ
limit_left x collect y = due_after x.pace (room_left x collect y) (free_in y.heap)

-- how much of it is the room's
abbrev pub brink_left : HostHeap → Bool → HostHeap → Option ℕ
brink_left x collect y = room_limit (room_left x collect y) (free_in y.heap)

-- A pause was made, of the kind that was asked for, and is counted. No bytes were made since, the room and the limit are those of the heap that it
-- left, and slices begin anew.
pub record Pauses (x y : HostHeap) (h : List LargeItem) (collect : Bool) : Type 0 where
  pub heap : PausesHeap x.heap y.heap h collect
  pub rest : y ≡ record x {
    heap = y.heap;
    room = room_left x collect y;
    limit = limit_left x collect y;
    brink = brink_left x collect y;
    bytes = 0;
    slice = first_slice x.work 0 (limit_left x collect y);
    turn = turn_of (first_slice x.work 0 (limit_left x collect y)) (limit_left x collect y) (brink_left x collect y);
    pauses = (x.pauses + 1) % 2 ^ 64;
  }

-- the history behind the pause that a heap has just made
abbrev pub behind_pause : HostHeap → List LargeItem → List LargeItem
behind_pause y h = Paused (report_of y.heap.space.report) ∷ h

-- A pause for a cause: it was made where the cause is there, and else nothing has changed. x and h are the heap and its history before it, and y
-- and k behind it.
abbrev pub PausesWhere : Type 0 → Bool → HostHeap → List LargeItem → HostHeap → List LargeItem → Type 0
PausesWhere cause collect x h y k = (cause × Pauses x y h collect × (k ≡ behind_pause y h)) ⊎ (¬ cause × (y ≡ x) × (k ≡ h))

-- the ends at which a heap is renewed leave room for what one call makes: an object, and three pauses
pub record IsWithin (ends : Ends) : Type 0 where
  pub made : ends.made + 2 < 2 ^ 32
  pub pauses : ends.pauses + 3 < 2 ^ 32

-- a heap has made as many objects, or as many pauses, as it makes before it is renewed
abbrev pub IsAtEnd : Ends → HostHeap → Type 0
IsAtEnd ends x = (ends.made ≤ x.heap.made) ⊎ (ends.pauses ≤ x.heap.space.pauses)

-- All names were renewed, and k is the history behind that.
pub record Renews (x y : HostHeap) (h k : List LargeItem) : Type 0 where
  pub heap : RenewsHeap x.heap y.heap h
  pub history : k ≡ Renewed heap.names ∷ h
  pub rest : y ≡ record x { heap = y.heap }

-- A heap that is at an end collects and is renewed; else nothing has changed.
abbrev pub SettlesAt : Ends → HostHeap → List LargeItem → HostHeap → List LargeItem → Type 0
SettlesAt ends x h y k = (IsAtEnd ends x × (m : HostHeap) × Pauses x m h true × Renews m y (behind_pause m h) k) ⊎ (¬ IsAtEnd ends x × (y ≡ x) × (k ≡ h))

-- so it does before an operation that makes an object or stores a reference, and before a pause that is asked for
abbrev pub Settles : HostHeap → List LargeItem → HostHeap → List LargeItem → Type 0
Settles = SettlesAt ENDS

-- the objects that were made since the last pause have as many bytes as the next one is due by, and nothing is left for slices of what waits for it
abbrev pub IsDueInTime : HostHeap → List LargeItem → Type 0
IsDueInTime x h = (x.slice ≡ None) × IsReached x.limit (bytes_made h)

-- A pause is due before an object is made: at once where these objects have as many bytes as the room had left, and else after the slices.
abbrev pub IsDue : HostHeap → List LargeItem → Type 0
IsDue x h = IsReached x.brink (bytes_made h) ⊎ IsDueInTime x h

-- more blocks are in use than it has room for, so that the pause that is due collects
abbrev pub exceeds_room : HostHeap → Bool
exceeds_room x = is_exceeded x.room (free_in x.heap)

-- An operation needs a pause that collects where it finds no place and no such pause stands before it, and a plain one where it has to record what
-- it overwrites and the log is full.
abbrev pub Needs : HostHeap → List LargeItem → LargeOp → Bool → Type 0
Needs x h o true = FindsNoPlace x.heap o × (x.heap.fresh ≡ false)
Needs x h o false = FindsNoLog x.heap (large_moment h) o

-- the pause that an operation needs was made, or it needs none and nothing has changed
abbrev pub PausesFor : LargeOp → HostHeap → List LargeItem → HostHeap → List LargeItem → Type 0
PausesFor o x h y k = ((collect : Bool) × Needs x h o collect × Pauses x y h collect × (k ≡ behind_pause y h)) ⊎ (((collect : Bool) → ¬ Needs x h o collect) × (y ≡ x) × (k ≡ h))

-- ---- operations

-- An operation was done, or refused as full: the heap is that of the history with it in front. The bytes of an object that it made are counted.
pub record Replies (x y : HostHeap) (h : List LargeItem) (o : LargeOp) (r : LargeReply) : Type 0 where
  pub heap : IsReplied x.heap y.heap h o r
  pub rest : y ≡ record x { heap = y.heap; bytes = x.bytes + bytes_by o r }

-- It was done behind the pause that it needs.
pub record Acts (x y : HostHeap) (h : List LargeItem) (o : LargeOp) (r : LargeReply) : Type 0 where
  pub middle : HostHeap
  pub history : List LargeItem
  pub pauses : PausesFor o x h middle history
  pub replies : Replies middle y history o r

-- A reference was stored: the heap settles, and the store is done.
pub record Stores (x y : HostHeap) (h : List LargeItem) (o : LargeOp) (r : LargeReply) : Type 0 where
  pub settled : HostHeap
  pub history : List LargeItem
  pub settles : Settles x h settled history
  pub acts : Acts settled y history o r

-- What is due before an object is made was done: a slice, and then a pause, which collects where the room is exceeded.
pub record Turns (x : HostHeap) (h : List LargeItem) (y : HostHeap) : Type 0 where
  pub worked : HostHeap
  pub works : WorksWhere x h worked
  pub history : List LargeItem
  pub pauses : PausesWhere (IsDue worked h) (exceeds_room worked) worked h y history

-- An object was made, or refused as full: the heap settles, what is due before it is done, and then the operation.
pub record Makes (x y : HostHeap) (h : List LargeItem) (o : LargeOp) (r : LargeReply) : Type 0 where
  pub settled : HostHeap
  pub settled_history : List LargeItem
  pub settles : Settles x h settled settled_history
  pub paused : HostHeap
  pub turns : Turns settled settled_history paused
  pub acts : Acts paused y turns.history o r

-- A pause was made that was asked for.
pub record PausesAsked (x y : HostHeap) (h : List LargeItem) (collect : Bool) : Type 0 where
  pub settled : HostHeap
  pub history : List LargeItem
  pub settles : Settles x h settled history
  pub pauses : Pauses settled y history collect
