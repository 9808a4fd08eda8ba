-- How the history of a run grows, and when it is whole. Each law is the contract of a function with an empty body.
use Rattle.std.specs.Prelude.{◌≡◌, ℕ, ◌≤◌, All, Bool, List, ◌∷◌, length, take}
use Rattle.lxr_graph.specs.History.{Item, Pause, PauseReport, calls_of}
use Rattle.lxr_graph.specs.Step.{IsFormedFor}
use Rattle.lxr_model.specs.Belongs.{HasCause, IsHistorySoFar, LastPauseWasEarly, Script, operations_of}
use Rattle.lxr_model.specs.Kinds.{ends}
use Rattle.lxr_model.specs.Legal.{IsPause, OwesNoCall}
use Rattle.lxr_model_laws.specs.ScriptLaws.{GoesOn}
use Rattle.lxr_core_invariant.specs.EpochStates.{Extends}
use Rattle.lxr_rounds_history.specs.Plan.{Plan}
use Rattle.lxr_rounds_history.specs.Histories.{IsHistoryWith, script_terms_with}

-- each thread's calls are as many of its operations and its end
abbrev pub CallsBeginScript : Script → List Item → Type 0
CallsBeginScript script h = (t : ℕ) → 1 ≤ t → t ≤ length script → (n : ℕ) × (calls_of t h ≡ take n (operations_of script t))

-- threads are asked for operations alone that name the first so many registers
abbrev pub NamesFew : ℕ → Script → Type 0
NamesFew registers script = All (All (IsFormedFor registers)) script

-- The calls of an epoch lead from a history so far to one, where no pause stands at its end for a `new` that is still to come. Threads may be
-- asked for more while it runs: the history before is one of what was asked by then, and the one behind it of all that was asked, which names no
-- more registers than the plan allows.
abbrev pub EpochsKeepHistories : Type 0
EpochsKeepHistories = (renews : Bool) (plan : Plan) (script script' : Script) (h k : List Item) → IsHistorySoFar (script_terms_with renews plan script) script h → OwesNoCall (script_terms_with renews plan script) h
    → GoesOn script script' → NamesFew plan.registers script' → Extends (length script) plan.every h k → CallsBeginScript script' k
    → IsHistorySoFar (script_terms_with renews plan script') script' k

-- so does a pause that has a cause and is of a kind that may stand there, where at the last one not all threads had ended
abbrev pub PausesKeepHistories : Type 0
PausesKeepHistories = (renews : Bool) (plan : Plan) (script : Script) (h : List Item) (report : PauseReport) → IsHistorySoFar (script_terms_with renews plan script) script h
    → OwesNoCall (script_terms_with renews plan script) h → IsPause (script_terms_with renews plan script) h report → HasCause (script_terms_with renews plan script) script h
    → LastPauseWasEarly (script_terms_with renews plan script) h → IsHistorySoFar (script_terms_with renews plan script) script (Pause report ∷ h)

-- all threads have done all their operations and their ends
pub record HasEnded (script : Script) (h : List Item) : Type 0 where
  pub calls : (t : ℕ) → 1 ≤ t → t ≤ length script → calls_of t h ≡ operations_of script t
  pub ended : ends h ≡ length script

-- then the next pause makes the history whole
abbrev pub EndedHistoriesAreWhole : Type 0
EndedHistoriesAreWhole = (renews : Bool) (plan : Plan) (script : Script) (h : List Item) (report : PauseReport) → IsHistorySoFar (script_terms_with renews plan script) script (Pause report ∷ h)
    → HasEnded script h → IsHistoryWith renews plan script (Pause report ∷ h)
