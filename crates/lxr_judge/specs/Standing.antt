-- A judge behind the items that passed, and what it finds of the next one.
use Rattle.std.specs.Prelude.{◌≡◌, ℕ, ◌+◌, ◌-◌, ◌<◌, ◌≤◌, ◌⊎◌, ◌^◌, ◌%◌, Bool, true, false, not, ◌&&◌, ◌||◌, nat_eq, nat_lt, Option, Some, None, List, [], ◌∷◌, IsTrue, length}
use Rattle.lxr_layout.specs.declared.Shape.{Shape}
use Rattle.lxr_graph.specs.declared.Op.{Op}
use Rattle.lxr_graph.specs.declared.Op.TheVariants as op
use Rattle.lxr_graph.specs.declared.Reply.{Reply}
use Rattle.lxr_graph.specs.declared.Reply.TheVariants as reply
use Rattle.lxr_graph.specs.declared.report.Kind.{Kind}
use Rattle.lxr_graph.specs.declared.report.Kind.TheVariants as kind
use Rattle.lxr_graph.specs.History.{PauseReport, Item, Call, Pause, calls_of}
use Rattle.lxr_text_script.specs.declared.TheConstants.{SCRIPT_REGISTERS}
use Rattle.lxr_text_script.specs.Lines.{Text}
use Rattle.lxr_text_script.specs.Limits.{IsScript}
use Rattle.lxr_model.specs.Moments.{Moment, moment}
use Rattle.lxr_model.specs.Kinds.{MustCollect, MayStand}
use Rattle.lxr_model.specs.Legal.{Replies, IsWaitedFor}
use Rattle.lxr_model.specs.Belongs.{operations_of, next_operation, is_new, writes_reference}
use Rattle.lxr_judge_report.specs.Positions.{IsAt}
use Rattle.lxr_judge.specs.declared.judging.Judging.{Judging}
use Rattle.lxr_judge.specs.Evidence.{Evidence, reply_lines}
use Rattle.lxr_judge.specs.Taking.{IsLineOf, IsPrinted, next_line}
use Rattle.lxr_judge.specs.Passing.{HasNextCall, IsWaiting, HasReason, Passes, AllPass}
use Rattle.lxr_judge.specs.Progress.{Tells}

-- evidence that a judge can read: the threads of a script that was read, whose operations may name as many registers as any script's, and an
-- order with few enough items to be counted
pub record IsReadable (e : Evidence) : Type 0 where
  pub script : IsScript e.script
  pub threads : e.terms.threads ≡ length e.script
  pub registers : e.terms.registers ≡ SCRIPT_REGISTERS
  pub order : length e.order + 1 < 2 ^ 32

-- a judge stands behind history h: its position and what else it keeps are of h, and its page is empty
pub record Keeps (e : Evidence) (j : Judging) (h : List Item) : Type 0 where
  pub position : IsAt j.position (moment e.terms.threads h)
  pub progress : Tells e.terms j.progress h
  pub page : j.page ≡ []

-- it stands behind some history, whose items passed and which isn't all of the order
pub record IsJudging (e : Evidence) (j : Judging) : Type 0 where
  pub readable : IsReadable e
  pub history : List Item
  pub keeps : Keeps e j history
  pub pass : AllPass e history
  pub left : length history < length e.order

-- an operation may have waited for a pause at this moment: a `new` that found no block, or a write that found its log full
abbrev pub MayWait : Evidence → Moment → Option Op → Type 0
MayWait e m o =
    (IsTrue (is_new o) × (e.terms.blocks - e.terms.evacuate ≤ length m.unreclaimed + length m.made))
    ⊎ (IsTrue (writes_reference o) × (e.terms.log ≤ length m.written))

-- the objects that are unreclaimed or made behind h could leave no run for a shape
abbrev pub LeavesNoRun : Evidence → List Item → Shape → Type 0
LeavesNoRun e h shape = IsWaitedFor e.terms h (Call 1 (op.New 0 shape) reply.Full)

-- the next call of thread t behind h is a `new` that waits, and finds its line
abbrev pub Waits : Evidence → List Item → ℕ → Type 0
Waits e h t = (o : Op) × (next_operation e.script t h ≡ Some o) × HasNextCall e h t × IsWaitedFor e.terms h (Call t o reply.Full)

-- the line of a `new` doesn't say `full`
abbrev pub SaysNoFull : Op → Option Text → Type 0
SaysNoFull (op.New dest shape) line = ¬ IsLineOf (op.New dest shape) reply.Full line
SaysNoFull o line = Unit {0}

-- ---- where a kind may stand

-- the trace that runs began at this pause
abbrev pub is_begun : Option ℕ → ℕ → Bool
is_begun None j = false
is_begun (Some began) j = nat_eq began j

-- a trace is due at this pause, or any may begin one, and none runs
abbrev pub begins : Option ℕ → ℕ → ℕ → Bool
begins None n trace = nat_eq trace 0 || nat_eq (n % trace) 0
begins (Some began) n trace = false

-- neither a trace must begin at this pause nor the one that runs end
abbrev pub goes_on : Option ℕ → ℕ → ℕ → ℕ → Bool
goes_on None n trace within = nat_eq trace 0 || not (nat_eq (n % trace) 0)
goes_on (Some began) n trace within = nat_lt n (began + within)

-- a pause of a kind may stand, by whether it must collect, whether only calls of `new` stand behind the last pause, when the trace began that
-- runs, and its number
abbrev pub stands_by : Bool → Bool → Option ℕ → ℕ → ℕ → ℕ → Kind → Bool
stands_by must only began n trace within kind.Collect = must || only
stands_by must only began n trace within (kind.End j) = not must && is_begun began j
stands_by must only began n trace within kind.Begin = not must && begins began n trace
stands_by must only began n trace within kind.Plain = not must && goes_on began n trace within

-- ---- trials

-- the item behind h was tried: it passed, and the judge stands behind it; or nothing that it could take passes
abbrev pub Tried : Evidence → List Item → Judging → Bool → Type 0
Tried e h j true = (x : Item) × Passes e h x × Keeps e j (x ∷ h)
Tried e h j false = (x : Item) → ¬ Passes e h x

-- a pause of a kind was tried behind h: it passed, and the judge stands behind it; or no pause of this kind passes
abbrev pub TriedPause : Evidence → List Item → Kind → Judging → Bool → Type 0
TriedPause e h k j true = (x : Item) × Passes e h x × Keeps e j (x ∷ h)
TriedPause e h k j false = (report : PauseReport) → report.kind ≡ k → ¬ Passes e h (Pause report)

-- the pauses that end a trace were tried behind h
abbrev pub TriedEnds : Evidence → List Item → Judging → Bool → Type 0
TriedEnds e h j true = (x : Item) × Passes e h x × Keeps e j (x ∷ h)
TriedEnds e h j false = (report : PauseReport) (began : ℕ) → report.kind ≡ kind.End began → ¬ Passes e h (Pause report)

-- after a trial that failed the judge stands where it stood
abbrev pub Stays : Judging → Judging → Bool → Type 0
Stays old new true = Unit {0}
Stays old new false = new ≡ old

-- a collecting pause may stand behind h for what asked for it, or stands right before the `new` that waits for it
abbrev pub MayCollectHere : Evidence → List Item → Type 0
MayCollectHere e h = ¬ MustCollect e.terms h → (t : ℕ) × (o : Op) × IsWaiting e h t o

-- an operation of a thread was tried behind h: its reply was found, and the judge stands behind it; or no reply is right
abbrev pub TriedCall : Evidence → List Item → ℕ → Op → Judging → Bool → Type 0
TriedCall e h t o j true = (r : Reply) × Replies e.terms h t o r × IsPrinted o r (next_line e t h) × Keeps e j (Call t o r ∷ h)
TriedCall e h t o j false = (r : Reply) → Replies e.terms h t o r → ¬ IsPrinted o r (next_line e t h)

-- thread t took all: its operations and its end, with all lines of its replies
abbrev pub TakesAllOf : Evidence → List Item → ℕ → Type 0
TakesAllOf e h t = (calls_of t h ≡ operations_of e.script t) × (length (reply_lines e t) + 1 ≡ length (operations_of e.script t))

-- a pause of a kind may stand behind h, has a reason and what is to wait for it, whatever its report
abbrev pub MayPause : Evidence → List Item → Kind → Type 0
MayPause e h k = MayStand e.terms h (moment e.terms.threads h) ((moment e.terms.threads h).number + 1) k × HasReason e h
    × ((k ≡ kind.Collect) × ¬ MustCollect e.terms h → (t : ℕ) × (o : Op) × IsWaiting e h t o)
