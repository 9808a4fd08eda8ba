-- What each call of a program does at its handle: before and after it is kept a heap, or none.
use Rattle.std.specs.Prelude.{◌≡◌, ℕ, ◌≤◌, ◌⊎◌, Bool, None, Some, List, Result, Ok, Err}
use Rattle.lxr_large_model.specs.declared.LargeOp.{LargeOp}
use Rattle.lxr_large_model.specs.declared.LargeReply.{LargeReply}
use Rattle.lxr_large_model.specs.History.{LargeItem}
use Rattle.lxr_c_base.specs.declared.codes.Code.{Code}
use Rattle.lxr_c_base.specs.declared.codes.Code.TheVariants as code
use Rattle.lxr_c_heap.specs.declared.host.Ends.{Ends}
use Rattle.lxr_c_heap.specs.declared.host.HostHeap.{HostHeap}
use Rattle.lxr_c_heap.specs.declared.room.TheConstants.{MOST_GROW}
use Rattle.lxr_c_heap.specs.declared.settings.Settings.{Settings}
use Rattle.lxr_c_base.specs.Codes.{Answer, answered}
use Rattle.lxr_c_heap.specs.Hosting.{IsHostOf, IsOpened, PausesAsked, SettlesAt}
use Rattle.lxr_c_heap.specs.Keeping.{Kept}
use Rattle.lxr_c_heap.specs.declared.working.TheConstants.{MOST_WORK}
use Rattle.lxr_c_heap.specs.Pacing.{pace_of}
use Rattle.lxr_c_heap.specs.Rooms.{with_blocks}
use Rattle.lxr_c_heap.specs.Working.{WorksAsked, with_pace, with_room, with_work}
use Rattle.lxr_c_heap.specs.Settings.{AreSettings}
use Rattle.lxr_c_base.specs.Requests.{Request}

-- ---- a heap

-- a heap of these settings was opened, or there was no memory for it
abbrev pub OpensSome : Kept → Settings → Code → Type 0
OpensSome after wanted answer = ((x : HostHeap) × (answer ≡ code.Done) × (after ≡ Some x) × IsOpened x wanted) ⊎ ((answer ≡ code.Memory) × (after ≡ None))

-- A heap was to be opened: the handle has one already, or a size is out of its range, that of the settings too, or this was tried.
abbrev pub Opens : Kept → Kept → Settings → Code → Type 0
Opens (Some x) after wanted answer = (answer ≡ code.InUse) × (after ≡ Some x)
Opens None after wanted answer = (AreSettings wanted → OpensSome after wanted answer) × (¬ AreSettings wanted → (answer ≡ code.Size) × (after ≡ None))

-- a heap was to be closed: there is none then
abbrev pub Closes : Kept → Kept → Code → Type 0
Closes None after answer = (answer ≡ code.NoHeap) × (after ≡ None)
Closes (Some x) after answer = (answer ≡ code.Done) × (after ≡ None)

-- ---- operations

-- A request was made: the handle has no heap, or the numbers of the request don't fit, or this was done on its heap, whatever history that is of.
abbrev pub Asks : (HostHeap → HostHeap → List LargeItem → LargeOp → LargeReply → Type 0) → Kept → Kept → Request → Answer → Type 0
Asks does None after request answer = (answer ≡ Err code.NoHeap) × (after ≡ None)
Asks does (Some x) after (Err e) answer = (answer ≡ Err e) × (after ≡ Some x)
Asks does (Some x) after (Ok o) answer = (y : HostHeap) × (r : LargeReply) × (after ≡ Some y) × (answer ≡ Ok r) × ((h : List LargeItem) → IsHostOf x h → does x y h o r)

-- a request was made, and the program gets the number of its answer
abbrev pub Calls : (HostHeap → HostHeap → List LargeItem → LargeOp → LargeReply → Type 0) → Kept → Kept → Request → ℕ → Type 0
Calls does before after request result = (answer : Answer) × Asks does before after request answer × (result ≡ answered answer)

-- ---- pauses

-- A pause was asked for.
abbrev pub AsksPause : Kept → Kept → Bool → Code → Type 0
AsksPause None after collect answer = (answer ≡ code.NoHeap) × (after ≡ None)
AsksPause (Some x) after collect answer = (y : HostHeap) × (answer ≡ code.Done) × (after ≡ Some y) × ((h : List LargeItem) → IsHostOf x h → PausesAsked x y h collect)

-- so many bytes of new objects are to be made between two pauses at most, by the pace of this number
abbrev pub SetsPace : Kept → Kept → ℕ → Code → Type 0
SetsPace None after bytes answer = (answer ≡ code.NoHeap) × (after ≡ None)
SetsPace (Some x) after bytes answer = (answer ≡ code.Done) × (after ≡ Some (with_pace (pace_of bytes) x))

-- Room was to be set for so many blocks, or for all by 0: there are fewer than that in all, or it has it from now on, and all else is as it was.
abbrev pub SetsRoom : ℕ → HostHeap → HostHeap → Code → Type 0
SetsRoom blocks x y answer =
    ((blocks ≤ x.room.reserved) × (answer ≡ code.Done) × (y ≡ with_room (with_blocks blocks x.room) x))
    ⊎ (¬ (blocks ≤ x.room.reserved) × (answer ≡ code.Size) × (y ≡ x))

-- The growth of the room was to be set: it is out of its range, or holds from the next collecting pause on, and all else is as it was.
abbrev pub SetsGrow : ℕ → HostHeap → HostHeap → Code → Type 0
SetsGrow grow x y answer =
    ((grow ≤ MOST_GROW) × (answer ≡ code.Done) × (y ≡ record x { room = record x.room { grow = grow } })) ⊎ (¬ (grow ≤ MOST_GROW) × (answer ≡ code.Size) × (y ≡ x))

-- How many units it does for each 64 bytes of new objects was to be set: there are more than are allowed, or it does so many from now on, and all
-- else is as it was.
abbrev pub SetsWork : ℕ → HostHeap → HostHeap → Code → Type 0
SetsWork units x y answer = ((units ≤ MOST_WORK) × (answer ≡ code.Done) × (y ≡ with_work units x)) ⊎ (¬ (units ≤ MOST_WORK) × (answer ≡ code.Size) × (y ≡ x))

-- Some of what waits for the next pause was to be done: there is no heap, or up to so many units were, and it is told whether slices have more to do.
abbrev pub AsksWork : Kept → Kept → ℕ → Result Bool Code → Type 0
AsksWork None after units answer = (answer ≡ Err code.NoHeap) × (after ≡ None)
AsksWork (Some x) after units answer = (y : HostHeap) × (more : Bool) × (answer ≡ Ok more) × (after ≡ Some y) × ((h : List LargeItem) → IsHostOf x h → WorksAsked units x y h more)

-- something of a heap was to be set
abbrev pub Sets : (HostHeap → HostHeap → Code → Type 0) → Kept → Kept → Code → Type 0
Sets does None after answer = (answer ≡ code.NoHeap) × (after ≡ None)
Sets does (Some x) after answer = (y : HostHeap) × (after ≡ Some y) × does x y answer

-- all names were renewed where so many objects or pauses were made
abbrev pub SettlesHeap : Ends → Kept → Kept → Type 0
SettlesHeap ends None after = after ≡ None
SettlesHeap ends (Some x) after = (y : HostHeap) × (after ≡ Some y) × ((h : List LargeItem) → IsHostOf x h → (k : List LargeItem) × SettlesAt ends x h y k)
