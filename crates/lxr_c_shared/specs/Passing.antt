-- What calls do at a station.
use Rattle.std.specs.Prelude.{◌≡◌, ◌⊎◌, ℕ, zero, suc, Bool, true, false, if◌then◌else◌, IsTrue, Option, None, Some, Result, Ok, Err}
use Rattle.lxr_layout.specs.declared.TheConstants.{REGISTERS}
use Rattle.lxr_graph.specs.declared.Op.{Op}
use Rattle.lxr_graph.specs.declared.Reply.{Reply}
use Rattle.lxr_graph.specs.declared.Reply.TheVariants as reply
use Rattle.lxr_large_model.specs.declared.LargeReply.TheVariants as large_reply
use Rattle.lxr_mutator.specs.Mutators.{IsOperation}
use Rattle.lxr_core.specs.declared.actors.AnyActor.{AnyActor}
use Rattle.lxr_core.specs.declared.actors.AnyActor.TheVariants as any
use Rattle.lxr_stations.specs.declared.station.Answer.{Answer}
use Rattle.lxr_stations.specs.declared.station.Answer.TheVariants as answer
use Rattle.lxr_stations.specs.declared.station.NotOut.{NotOut}
use Rattle.lxr_stations.specs.declared.station.NotOut.TheVariants as kept
use Rattle.lxr_shared_heap.specs.Heaps.{Heaped, IsKept, IsPassOf}
use Rattle.lxr_stations.specs.Stations.{HasAnswered, HasGoneOn, HasNoRoom, Helps, IsOpen, IsSameStation, Stationed, is_mutator, newest_of, registers_of}
use Rattle.lxr_stations.specs.Wanting.{HasEnded, IsHeldUp}
use Rattle.lxr_c_base.specs.declared.codes.Code.{Code}
use Rattle.lxr_c_base.specs.declared.codes.Code.TheVariants as code
use Rattle.lxr_c_shared.specs.declared.owned.Owned.{Owned}
use Rattle.lxr_c_shared.specs.declared.owned.Owned.TheVariants as owned
use Rattle.lxr_c_shared.specs.declared.passing.NotSent.{NotSent}
use Rattle.lxr_c_shared.specs.declared.passing.NotSent.TheVariants as unsent
use Rattle.lxr_c_shared.specs.declared.passing.Told.{Told}
use Rattle.lxr_c_base.specs.Codes.{code_of, number_of, written_over}
use Rattle.lxr_c_shared.specs.Holding.{At, MayHold}
use Rattle.lxr_c_base.specs.Requests.{SmallRequest}

-- ---- what is told

-- a code alone
abbrev pub only : Code → Told
only e = record { code = e; word = None }

-- the word that a reply tells: what was read, what stood there before an addition, or whether registers hold the same, as 1 or 0
abbrev pub word_of : Reply → Option ℕ
word_of (reply.Got v) = Some v
word_of (reply.Added v) = Some v
word_of (reply.Same b) = Some (if b then 1 else 0)
word_of r = None

-- the code of a reply, with its word
abbrev pub told_by : Reply → Told
told_by r = record { code = code_of (large_reply.Small r); word = word_of r }

-- a word that is 1 or 0, as a flag
abbrev pub flag_of : ℕ → ℕ
flag_of zero = 0
flag_of (suc n) = 1

-- ---- leaving and coming home

-- the code of why a pass is not let out
abbrev pub not_out_code : NotOut → Code
not_out_code kept.NotRunning = code.Epoch
not_out_code kept.Ended = code.Ended
not_out_code kept.Lost = code.Lost
not_out_code kept.NoSuch = code.Number
not_out_code kept.Away = code.Away
not_out_code (kept.Memory refused) = code.Memory

-- what has come of the wish that a pass leave for a station: it left, or why not
abbrev pub Sent : Type 0
Sent = Result (Unit {0}) NotSent

-- the code of why none leaves
abbrev pub not_sent_code : NotSent → Code
not_sent_code unsent.NoHeap = code.NoHeap
not_sent_code unsent.InUse = code.InUse
not_sent_code (unsent.Kept why) = not_out_code why
not_sent_code (unsent.NoBox refused home) = code.Memory

-- the code of what has come of that wish
abbrev pub sent_code : Sent → Code
sent_code (Ok left) = code.Done
sent_code (Err why) = not_sent_code why

-- why no pass leaves for a station that has its box: it isn't let out
abbrev pub IsNotLetOut : Heaped → ℕ → NotSent → Type 0
IsNotLetOut x n (unsent.Kept why) = IsKept x n why
IsNotLetOut x n (unsent.NoBox refused home) = ⊥
IsNotLetOut x n unsent.NoHeap = ⊥
IsNotLetOut x n unsent.InUse = ⊥

-- Why none leaves for a station whose box is to be made: it isn't let out; or it was, a box was refused (`NoBox`), which `boxed` alone answers, and
-- it has come home again as it was.
abbrev pub IsNotSent : Heaped → ℕ → NotSent → Type 0
IsNotSent x n (unsent.Kept why) = IsKept x n why
IsNotSent x n (unsent.NoBox refused home) = (s : Stationed) × IsPassOf x.stage n s × (home ≡ Some (Some s))
IsNotSent x n unsent.NoHeap = ⊥
IsNotSent x n unsent.InUse = ⊥

-- it is a station with the pass of this number
abbrev pub IsSentBy : Heaped → ℕ → Owned → Type 0
IsSentBy x n o = (s : Stationed) × (o ≡ owned.Away s) × IsPassOf x.stage n s

-- the pass left its home for a station; or for such a reason it didn't, and this is there as it was
abbrev pub Leaves : (NotSent → Type 0) → Heaped → ℕ → MayHold → MayHold → Sent → Type 0
Leaves IsReason x n before after (Ok left) = (o : Owned) × (after ≡ Some o) × IsSentBy x n o
Leaves IsReason x n before after (Err why) = (after ≡ before) × IsReason why

-- A pass was to leave for a station, which has none that is away.
abbrev pub SendsPass : Heaped → ℕ → MayHold → MayHold → Sent → Type 0
SendsPass x n None after answer = Leaves (IsNotSent x n) x n None after answer
SendsPass x n (Some (owned.Home h)) after answer = Leaves (IsNotLetOut x n) x n (Some (owned.Home h)) after answer
SendsPass x n (Some o) after answer = (answer ≡ Err unsent.InUse) × (after ≡ Some o)

-- a pass of a heap, which isn't changed, was to leave for a station
abbrev pub LetsOutOf : ℕ → MayHold → MayHold → Owned → Sent → Type 0
LetsOutOf n before after (owned.Shared x) answer = SendsPass x n before after answer
LetsOutOf n before after x answer = (after ≡ before) × (answer ≡ Err unsent.NoHeap)

-- the same where there may be no heap
abbrev pub LetsOut : ℕ → MayHold → MayHold → MayHold → Sent → Type 0
LetsOut n before after None answer = (after ≡ before) × (answer ≡ Err unsent.NoHeap)
LetsOut n before after (Some x) answer = LetsOutOf n before after x answer

-- A pass was to come home: what the station has then is its homecoming, of the pass as it was.
abbrev pub ComesHome : Owned → Owned → Code → Type 0
ComesHome (owned.Away p) y answer = (y ≡ owned.Home (Some (Some p))) × (answer ≡ code.Done)
ComesHome (owned.Home h) y answer = (y ≡ owned.Home h) × (answer ≡ code.Home)
ComesHome (owned.Shared x) y answer = (y ≡ owned.Shared x) × (answer ≡ code.NoHeap)

-- whether it is a station
abbrev pub is_post : Owned → Bool
is_post (owned.Shared x) = false
is_post o = true

-- a station was to be closed: it is none then
abbrev pub ClosesStation : MayHold → MayHold → Code → Type 0
ClosesStation (Some (owned.Shared x)) after answer = (answer ≡ code.NoHeap) × (after ≡ Some (owned.Shared x))
ClosesStation (Some o) after answer = (answer ≡ code.Done) × (after ≡ None)
ClosesStation None after answer = (answer ≡ code.NoHeap) × (after ≡ None)

-- ---- pauses and helpers

-- Whether a pause is wanted was looked at: it is where the thread is held up, and isn't where it has ended, or for a helper.
abbrev pub SeesWanted : Owned → Owned → Result Bool Code → Type 0
SeesWanted (owned.Away p) y seen = (y ≡ owned.Away p) × (b : Bool) × (seen ≡ Ok b) × (IsHeldUp p.pass.actor → IsTrue b) × ((is_mutator p.pass.actor ≡ false) ⊎ HasEnded p.pass.actor → b ≡ false)
SeesWanted (owned.Home h) y seen = (y ≡ owned.Home h) × (seen ≡ Err code.Home)
SeesWanted (owned.Shared x) y seen = (y ≡ owned.Shared x) × (seen ≡ Err code.NoHeap)

-- a helper did so many units, or as many as it found work for, and whether each found some; a thread's does none
abbrev pub HelpsPass : ℕ → Stationed → Stationed → Result Bool Code → Type 0
HelpsPass units p q (Ok all) = (is_mutator p.pass.actor ≡ false) × IsSameStation p q × Helps units p.pass all q.pass
HelpsPass units p q (Err e) = (is_mutator p.pass.actor ≡ true) × (q ≡ p) × (e ≡ code.Kind)

-- units of a helper were to be done
abbrev pub HelpsBy : ℕ → Owned → Owned → Result Bool Code → Type 0
HelpsBy units (owned.Away p) y answer = (q : Stationed) × (y ≡ owned.Away q) × HelpsPass units p q answer
HelpsBy units (owned.Home h) y answer = (y ≡ owned.Home h) × (answer ≡ Err code.Home)
HelpsBy units (owned.Shared x) y answer = (y ≡ owned.Shared x) × (answer ≡ Err code.NoHeap)

-- ---- operations

-- how many registers an operation may name: as many as the mutator may whose pass is away, and else all that there are
abbrev pub registers_in : MayHold → ℕ
registers_in (Some (owned.Away p)) = registers_of p.pass.actor
registers_in x = REGISTERS

-- no operation is open, and there is no room for one that it may be asked for: it was ordered all that one of its number may be
-- (`mutators_have_limits`)
abbrev pub IsUsedUp : AnyActor → Op → Type 0
IsUsedUp (any.Mutator m) o = (¬ IsOpen (any.Mutator m)) × (IsOperation m.width o → HasNoRoom m)
IsUsedUp a o = ⊥

-- why an actor takes no operation up: it is a helper, an operation is open, or it has had as many as it may
abbrev pub IsRefusal : AnyActor → Op → Code → Type 0
IsRefusal a o code.Kind = is_mutator a ≡ false
IsRefusal a o code.Busy = (is_mutator a ≡ true) × IsOpen a
IsRefusal a o code.UsedUp = IsUsedUp a o
IsRefusal a o e = ⊥

-- what is told of an answer that an actor has to an operation
abbrev pub TellsAnswer : AnyActor → Op → Answer → Told → Type 0
TellsAnswer a o (answer.Done r) told = told ≡ told_by r
TellsAnswer a o answer.Waits told = told ≡ only code.Waits
TellsAnswer a o answer.Pause told = told ≡ only code.Held
TellsAnswer a o answer.Ended told = told ≡ only code.Ended
TellsAnswer a o answer.Refused told = (told ≡ only told.code) × IsRefusal a o told.code

-- an operation was ordered, and this is told of its answer
abbrev pub Orders : Stationed → Op → Stationed → Told → Type 0
Orders p o q told = IsSameStation p q × (a : Answer) × HasAnswered p.pass o a q.pass × TellsAnswer p.pass.actor o a told

-- an operation was to be ordered
abbrev pub Operates : SmallRequest → Owned → Owned → Told → Type 0
Operates (Ok o) (owned.Away p) y told = (q : Stationed) × (y ≡ owned.Away q) × Orders p o q told
Operates (Ok o) (owned.Home h) y told = (y ≡ owned.Home h) × (told ≡ only code.Home)
Operates (Err e) (owned.Away p) y told = (y ≡ owned.Away p) × (told ≡ only e)
Operates (Err e) (owned.Home h) y told = (y ≡ owned.Home h) × (told ≡ only e)
Operates request (owned.Shared x) y told = (y ≡ owned.Shared x) × (told ≡ only code.NoHeap)

-- an operation was to be ordered at what a program has, and it gets the number of its code
abbrev pub OrdersBy : SmallRequest → MayHold → MayHold → ℕ → Type 0
OrdersBy request before after result = (told : Told) × At (only code.NoHeap) (Operates request) before after told × (result ≡ number_of told.code)

-- the same, and in a place of its own stands what is told, or what stood there where nothing is
abbrev pub TellsBy : (Told → Option ℕ) → SmallRequest → MayHold → MayHold → ℕ → ℕ → ℕ → Type 0
TellsBy tells request before after result old new =
    (told : Told) × At (only code.NoHeap) (Operates request) before after told × (result ≡ number_of told.code) × (new ≡ written_over old (tells told))

-- what is told where an operation is gone on with that is open
abbrev pub told_going : Option Reply → Told
told_going (Some r) = told_by r
told_going None = only code.Waits

-- what is told of the newest reply
abbrev pub told_newest : Option Reply → Told
told_newest (Some r) = told_by r
told_newest None = only code.Nothing

-- The operation that was ordered last was answered: it was gone on with, where it is open, and else its reply is the newest one.
abbrev pub AnswersPass : Stationed → Stationed → Told → Type 0
AnswersPass p q told =
    ((is_mutator p.pass.actor ≡ false) × (q ≡ p) × (told ≡ only code.Kind))
    ⊎ (((is_mutator p.pass.actor ≡ true) × IsOpen p.pass.actor × IsSameStation p q × (r : Option Reply) × HasGoneOn p.pass r q.pass × (told ≡ told_going r))
    ⊎ ((is_mutator p.pass.actor ≡ true) × (¬ IsOpen p.pass.actor) × (q ≡ p) × (told ≡ told_newest (newest_of p.pass.actor))))

-- an answer was asked for
abbrev pub Answers : Owned → Owned → Told → Type 0
Answers (owned.Away p) y told = (q : Stationed) × (y ≡ owned.Away q) × AnswersPass p q told
Answers (owned.Home h) y told = (y ≡ owned.Home h) × (told ≡ only code.Home)
Answers (owned.Shared x) y told = (y ≡ owned.Shared x) × (told ≡ only code.NoHeap)
