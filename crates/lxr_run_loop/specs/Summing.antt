-- The numbers of a run at its end: what is counted of its actors, and that they are those of its history.
use Rattle.std.specs.Prelude.{◌≡◌, ℕ, ⊤, Bool, true, false, Option, Some, List, count_by, length, slice_get}
use Rattle.lxr_graph.specs.declared.Reply.{Reply}
use Rattle.lxr_graph.specs.declared.Reply.TheVariants as reply
use Rattle.lxr_graph.specs.History.{Item}
use Rattle.lxr_image.specs.declared.space.Space.{Space}
use Rattle.lxr_mutator.specs.Mutators.{IsFull}
use Rattle.lxr_core.specs.declared.actors.AnyActor.{AnyActor}
use Rattle.lxr_core.specs.declared.actors.AnyActor.TheVariants as any
use Rattle.lxr_text_print.specs.declared.summary.Sums.{Sums}
use Rattle.lxr_sights.specs.Sights.{Sight}
use Rattle.lxr_run_history.specs.declared.totals.Totals.{Totals}
use Rattle.lxr_run_history.specs.Sums.{sums_of, totals_of}
use Rattle.lxr_run_loop.specs.Tasks.{HasRunAndTold, RunTask, script_threads}
use Rattle.lxr_run_loop.specs.declared.course.Course.{Course}
use Rattle.lxr_run_loop.specs.Progress.{IsComplete}

-- how many operations the thread of an actor has done, its end among them; a helper has none
abbrev pub calls_by : AnyActor → ℕ
calls_by (any.Mutator m) = length m.replies.items
calls_by (any.Decrementer d) = 0
calls_by (any.Tracer d) = 0

-- the reply to a `new` that found no room
abbrev pub is_full : Reply → Bool
is_full reply.Full = true
is_full r = false

-- how many `new`s of the thread of an actor found no room; a helper has none
abbrev pub refusals_by : AnyActor → ℕ
refusals_by (any.Mutator m) = count_by is_full m.replies.items
refusals_by (any.Decrementer d) = 0
refusals_by (any.Tracer d) = 0

-- an actor keeps its replies; a helper has none
abbrev pub KeepsReplies : AnyActor → Type 0
KeepsReplies (any.Mutator m) = IsFull m
KeepsReplies (any.Decrementer d) = ⊤
KeepsReplies (any.Tracer d) = ⊤

-- each of these does
abbrev pub KeepAll : List AnyActor → Type 0
KeepAll actors = (i : ℕ) (a : AnyActor) → slice_get actors i ≡ Some a → KeepsReplies a

-- some run is complete with this space and these actors, and its reports have these totals
abbrev pub SomeHasRun : Space → List AnyActor → Totals → Type 0
SomeHasRun space actors totals = (task : RunTask) × (written : Option (List ℕ)) × (seen : Option (List Sight)) × (course : Course) × (course.totals ≡ totals) × IsComplete task space written seen actors course

-- these are the sums of the history of each such run, where these are the totals of its reports
abbrev pub AreSums : Sums → Space → List AnyActor → Totals → Type 0
AreSums sums space actors totals = (task : RunTask) (written : Option (List ℕ)) (seen : Option (List Sight)) (h : List Item) → HasRunAndTold task space written seen actors h → totals ≡ totals_of h
    → sums ≡ sums_of (script_threads task) h
