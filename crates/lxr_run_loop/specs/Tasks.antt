-- What a run goes by, and how it is stopped.
use Rattle.std.specs.Prelude.{◌≡◌, ◌⊎◌, ℕ, Bool, true, Option, List, [], length}
use Rattle.lxr_graph.specs.History.{Item}
use Rattle.lxr_image.specs.declared.space.Space.{Space}
use Rattle.lxr_model.specs.Belongs.{IsHistorySoFar, Script}
use Rattle.lxr_core.specs.declared.actors.AnyActor.{AnyActor}
use Rattle.lxr_sights.specs.Sights.{Sight}
use Rattle.lxr_text_stream.specs.Streams.{Appends, AppendsFront}
use Rattle.lxr_text_stream.specs.declared.transfer.WriteError.{WriteError}
use Rattle.lxr_text_stream.specs.declared.transfer.WriteError.TheVariants as error
use Rattle.lxr_words.specs.declared.Options.{Options}
use Rattle.lxr_rounds_history.specs.Sights.{Sees}
use Rattle.lxr_rounds_history.specs.Tally.{Evacuated, evacuated_in}
use Rattle.lxr_rounds_invariant.specs.LoopInvariant as rounds
use Rattle.lxr_run_history.specs.Left.{IsLeftBy, TellsByOptions}
use Rattle.lxr_run_history.specs.Run.{plan_of}
use Rattle.lxr_run_history.specs.Texts.{told_text}

-- What a run goes by: its options, what its threads were asked for so far, and what was written and seen before it, where it is told. A run of
-- a script is asked for all of it from the start.
pub record RunTask : Type 0 where
  pub options : Options
  -- whether names may be renewed; those of scripts never are
  pub renews : Bool
  pub script : Script
  pub written : Option (List ℕ)
  pub seen : Option (List Sight)

-- how many threads its script has
abbrev pub script_threads : RunTask → ℕ
script_threads task = length task.script

-- what its rounds go by; mutators of scripts tell names
abbrev pub rounds_of : RunTask → rounds.Task
rounds_of task = record { plan = plan_of task.options; renews = task.renews; names = true; script = task.script; seen = task.seen }

-- the reports of a history were written
abbrev pub HasTold : RunTask → Option (List ℕ) → List Item → Type 0
HasTold task written h = Appends task.written written (told_text task.options h)

-- all operations and ends are done, the last pause is made, the reports were written, and the last one lists the counts that are printed
pub record HasRunAndTold (task : RunTask) (space : Space) (written : Option (List ℕ)) (seen : Option (List Sight)) (actors : List AnyActor) (h : List Item) : Type 0 where
  pub rounds : rounds.HasRunTo (rounds_of task) space seen actors h
  pub text : HasTold task written h
  pub told : TellsByOptions task.options space

-- ---- a run that is stopped

-- A run that was cut off at a report: a prefix of the reports of a history so far was written, the space is left by it, and the watch has seen
-- all its pauses.
pub record WasCutOffAt (task : RunTask) (space : Space) (written : Option (List ℕ)) (seen : Option (List Sight)) (h : List Item) : Type 0 where
  pub history : IsHistorySoFar (rounds.terms_of (rounds_of task)) task.script h
  pub text_front : AppendsFront task.written written (told_text task.options h)
  pub left : IsLeftBy task.options (script_threads task) h space
  pub sights : Sees (script_threads task) h task.seen seen (evacuated_in space.tally)

-- so it was at the report of some history
abbrev pub WasCutOff : RunTask → Space → Option (List ℕ) → Option (List Sight) → Type 0
WasCutOff task space written seen = (h : List Item) × WasCutOffAt task space written seen h

-- a run that lost its space, since no memory was left as an epoch was to begin: the reports so far were written, and their pauses seen
pub record WasLostAt (task : RunTask) (space : Space) (written : Option (List ℕ)) (seen : Option (List Sight)) (h : List Item) : Type 0 where
  pub history : IsHistorySoFar (rounds.terms_of (rounds_of task)) task.script h
  pub text : HasTold task written h
  pub gone : space.words ≡ []
  pub evacuated : Evacuated
  pub sights : Sees (script_threads task) h task.seen seen evacuated

-- so it was behind some history
abbrev pub WasLost : RunTask → Space → Option (List ℕ) → Option (List Sight) → Type 0
WasLost task space written seen = (h : List Item) × WasLostAt task space written seen h

-- a run that a fault of writing stopped was cut off; one that want of memory stopped was cut off, or lost its space
abbrev pub WasStopped : WriteError → RunTask → Space → Option (List ℕ) → Option (List Sight) → Type 0
WasStopped error.Fault task space written seen = WasCutOff task space written seen
WasStopped error.Memory task space written seen = WasCutOff task space written seen ⊎ WasLost task space written seen
