-- What calls do at a heap that threads share.
use Rattle.std.specs.Prelude.{◌≡◌, ◌↔◌, ◌⊎◌, ℕ, Bool, true, false, ◌/◌, ◌<◌, ◌==◌, ◌||◌, ◌&&◌, nat_lt, if◌then◌else◌, Option, None, Some, List, length, Result, Ok, Err}
use Rattle.lxr_layout.specs.declared.TheConstants.{LEAST_REGISTERS, REGISTERS}
use Rattle.lxr_graph.specs.declared.report.Kind.{Kind}
use Rattle.lxr_graph.specs.declared.report.Kind.TheVariants as kind
use Rattle.lxr_graph.specs.History.{Item, PauseReport}
use Rattle.lxr_model.specs.Belongs.{Script}
use Rattle.lxr_rounds_history.specs.Left.{last_report}
use Rattle.lxr_shared_heap.specs.declared.heap.Paused.{Paused}
use Rattle.lxr_shared_heap.specs.declared.heap.Paused.TheVariants as paused
use Rattle.lxr_shared_heap.specs.declared.heap.Resumed.{Resumed}
use Rattle.lxr_shared_heap.specs.declared.heap.Resumed.TheVariants as resumed
use Rattle.lxr_shared_heap.specs.declared.settings.Settings.{Settings}
use Rattle.lxr_shared_heap.specs.declared.settings.TheConstants.{RUNS_LISTED}
use Rattle.lxr_shared_heap.specs.Heaps.{Heaped, IsAtRest, IsHeapOf, IsOpened, Pauses, Resumes, free_at, most_asked}
use Rattle.lxr_shared_heap.specs.Settings.{AreSettings}
use Rattle.lxr_c_base.specs.declared.codes.Code.{Code}
use Rattle.lxr_c_base.specs.declared.codes.Code.TheVariants as code
use Rattle.lxr_c_shared.specs.declared.owned.Owned.{Owned}
use Rattle.lxr_c_shared.specs.declared.owned.Owned.TheVariants as owned
use Rattle.lxr_c_shared.specs.declared.settings.TheConstants.{FIRST_WISHES_BYTES, SECOND_WISHES_BYTES, WISHES_BYTES}
use Rattle.lxr_c_shared.specs.declared.settings.Wishes.{Wishes}
use Rattle.lxr_c_shared.specs.declared.sharing.OfPause.{OfPause}
use Rattle.lxr_c_shared.specs.declared.sharing.OfPause.TheVariants as of
use Rattle.lxr_c_shared.specs.declared.sharing.OfShared.{OfShared}
use Rattle.lxr_c_shared.specs.declared.sharing.OfShared.TheVariants as shared
use Rattle.lxr_c_shared.specs.Holding.{MayHold}

-- ---- opening

-- settings of their size say how many blocks are evacuated, and how many registers there are
abbrev pub has_registers : Wishes → Bool
has_registers w = w.size == WISHES_BYTES || w.size == SECOND_WISHES_BYTES

-- how many blocks a trace is to evacuate at most: an eighth of all where settings of version 0.2 don't say it; none where their size isn't known
abbrev pub evacuate_of : Wishes → Option ℕ
evacuate_of w = if has_registers w then Some w.evacuate else (if w.size == FIRST_WISHES_BYTES then Some (w.blocks / 8) else None)

-- how many registers each thread may name: the fewest where settings of version 0.2 don't say it, or where they say 0
abbrev pub registers_of : Wishes → ℕ
registers_of w = if has_registers w && nat_lt 0 w.registers then w.registers else LEAST_REGISTERS

-- how many runs of free lines are listed after a pause at most, in a heap of more than 1,024 blocks: 65,536 where settings don't say it, or where
-- they say 0
abbrev pub runs_of : Wishes → ℕ
runs_of w = if w.size == WISHES_BYTES && nat_lt 0 w.runs then w.runs else RUNS_LISTED

-- The settings that are wished for, where so many blocks are to be evacuated; none where there are more threads or helpers than any heap has, or more
-- registers than any thread. No names are told.
abbrev pub settings_with : Wishes → Option ℕ → Option Settings
settings_with w None = None
settings_with w (Some evacuate) =
    if nat_lt 255 w.mutators || (nat_lt 8 w.helpers || nat_lt REGISTERS (registers_of w)) then None
    else Some (record { blocks = w.blocks; mutators = w.mutators; helpers = w.helpers; log = w.log; remember = w.remember; registers = registers_of w; evacuate = evacuate; every = w.every; trace = w.trace; within = w.within; runs = runs_of w; names = false })

-- the settings that are wished for; none where their size isn't known either
abbrev pub settings_of : Wishes → Option Settings
settings_of w = settings_with w (evacuate_of w)

-- they are settings, each in its range
abbrev pub AreFit : Wishes → Type 0
AreFit w = (s : Settings) × (settings_of w ≡ Some s) × AreSettings s

-- a heap was opened with the settings that are wished for
abbrev pub IsOpenedBy : Heaped → Wishes → Type 0
IsOpenedBy x w = (s : Settings) × (settings_of w ≡ Some s) × IsOpened s x

-- it is such a heap
abbrev pub IsNewHeap : Owned → Wishes → Type 0
IsNewHeap o w = (x : Heaped) × (o ≡ owned.Shared x) × IsOpenedBy x w

-- the code says that a setting is out of its range, or that there is no memory
abbrev pub IsSizeOrMemory : Code → Type 0
IsSizeOrMemory e = (e ≡ code.Size) ⊎ (e ≡ code.Memory)

-- a heap was opened, or not
abbrev pub OpensSome : MayHold → Wishes → Code → Type 0
OpensSome after w answer = ((o : Owned) × (answer ≡ code.Done) × (after ≡ Some o) × IsNewHeap o w) ⊎ (IsSizeOrMemory answer × (after ≡ None))

-- A heap was to be opened: the handle has something already; or a setting is out of its range, exactly where the code says so; or there is no
-- memory; or it is opened.
abbrev pub OpensHeap : MayHold → MayHold → Wishes → Code → Type 0
OpensHeap (Some x) after w answer = (answer ≡ code.InUse) × (after ≡ Some x)
OpensHeap None after w answer = ((answer ≡ code.Size) ↔ ¬ AreFit w) × OpensSome after w answer

-- whether it is a heap
abbrev pub is_shared : Owned → Bool
is_shared (owned.Shared x) = true
is_shared o = false

-- a heap was to be closed: there is none then
abbrev pub ClosesHeap : MayHold → MayHold → Code → Type 0
ClosesHeap (Some (owned.Shared x)) after answer = (answer ≡ code.Done) × (after ≡ None)
ClosesHeap before after answer = (answer ≡ code.NoHeap) × (after ≡ before)

-- ---- epochs and pauses

-- the code of an answer to the wish for an epoch
abbrev pub resumed_code : Resumed → Code
resumed_code resumed.Open = code.Done
resumed_code resumed.Within = code.Epoch
resumed_code resumed.Ended = code.Ended
resumed_code resumed.Lost = code.Lost
resumed_code resumed.Memory = code.Memory

-- the code of an answer to the wish for a pause
abbrev pub paused_code : Paused → Code
paused_code paused.Made = code.Done
paused_code paused.NotWanted = code.NotWanted
paused_code (paused.Away n) = code.Away
paused_code paused.Shared = code.Busy
paused_code paused.NotRunning = code.Epoch
paused_code paused.Ended = code.Ended
paused_code paused.Lost = code.Lost

-- the next epoch was to be opened
abbrev pub ResumesHeap : Owned → Owned → Code → Type 0
ResumesHeap (owned.Shared x) y answer = (r : Resumed) × (x' : Heaped) × (y ≡ owned.Shared x') × Resumes r x x' × (answer ≡ resumed_code r)
ResumesHeap x y answer = (answer ≡ code.NoHeap) × (y ≡ x)

-- a pause was to be made, and to begin a trace, or not
abbrev pub PausesHeap : Bool → Owned → Owned → Code → Type 0
PausesHeap begins (owned.Shared x) y answer = (r : Paused) × (x' : Heaped) × (y ≡ owned.Shared x') × Pauses begins r x x' × (answer ≡ paused_code r)
PausesHeap begins x y answer = (answer ≡ code.NoHeap) × (y ≡ x)

-- ---- counts

-- what is counted by this number of the program's
abbrev pub of_shared : ℕ → Result OfShared Code
of_shared n =
    if n == 0 then Ok (shared.Pause of.Number)
    else (if n == 1 then Ok (shared.Pause of.Promoted)
    else (if n == 2 then Ok (shared.Pause of.Dead)
    else (if n == 3 then Ok (shared.Pause of.Stuck)
    else (if n == 4 then Ok (shared.Pause of.Swept)
    else (if n == 6 then Ok shared.FreeBlocks
    else (if n == 11 then Ok (shared.Pause of.Kind)
    else (if n == 12 then Ok shared.Asked
    else Err code.What)))))))

-- the number of a kind of pause
abbrev pub number_of_kind : Kind → ℕ
number_of_kind kind.Plain = 0
number_of_kind kind.Begin = 1
number_of_kind (kind.End n) = 2
number_of_kind kind.Collect = 3

-- what a report counts
abbrev pub counted_in : PauseReport → OfPause → ℕ
counted_in r of.Number = r.number
counted_in r of.Promoted = length r.promoted
counted_in r of.Dead = length r.dead
counted_in r of.Stuck = length r.stuck
counted_in r of.Swept = length r.swept
counted_in r of.Kind = number_of_kind r.kind

-- This was counted of the last pause: whatever history the heap is of, it is what the last report has, or 0 before the first pause. Where an epoch is
-- open, or the heap is lost, nothing is.
abbrev pub CountsLast : Heaped → OfPause → Result ℕ Code → Type 0
CountsLast x what (Ok n) = IsAtRest x.stage × ((script : Script) (h : List Item) → IsHeapOf script h x →
    ((0 < (last_report h).number) × (n ≡ counted_in (last_report h) what)) ⊎ (((last_report h).number ≡ 0) × (n ≡ 0)))
CountsLast x what (Err e) = ¬ IsAtRest x.stage × (e ≡ code.Epoch)

-- So many operations was the thread ordered that was ordered most, since names were renewed.
abbrev pub CountsAsked : Heaped → Result ℕ Code → Type 0
CountsAsked x (Ok n) = IsAtRest x.stage × ((script : Script) (h : List Item) → IsHeapOf script h x → n ≡ most_asked script)
CountsAsked x (Err e) = ¬ IsAtRest x.stage × (e ≡ code.Epoch)

-- So many blocks are without objects, as the last pause left them.
abbrev pub CountsFree : Heaped → Result ℕ Code → Type 0
CountsFree x (Ok n) = free_at x.stage ≡ Some n
CountsFree x (Err e) = (free_at x.stage ≡ None) × (e ≡ code.Epoch)

-- what is counted by a number of the program's
abbrev pub CountsBy : Heaped → Result OfShared Code → Result ℕ Code → Type 0
CountsBy x (Ok (shared.Pause what)) answer = CountsLast x what answer
CountsBy x (Ok shared.Asked) answer = CountsAsked x answer
CountsBy x (Ok shared.FreeBlocks) answer = CountsFree x answer
CountsBy x (Err e) answer = answer ≡ Err e

-- Something was to be counted, and nothing has changed.
abbrev pub CountsPause : ℕ → Owned → Owned → Result ℕ Code → Type 0
CountsPause what (owned.Shared x) y answer = (y ≡ owned.Shared x) × CountsBy x (of_shared what) answer
CountsPause what x y answer = (answer ≡ Err code.NoHeap) × (y ≡ x)
