-- Laws of the unreclaimed names: what a pause leaves, that it is closed under references, and what of it is garbage to a
-- trace that runs.
use Rattle.std.specs.Prelude.{◌≡◌, ◌⊎◌, false, Some, List, ◌∷◌, IsTrue}
use Rattle.lxr_layout.specs.declared.Name.{Name}
use Rattle.lxr_graph.specs.Names.{has, without}
use Rattle.lxr_graph.specs.State.{HasObject, object_at}
use Rattle.lxr_graph.specs.History.{PauseReport, Item, Pause}
use Rattle.lxr_model.specs.Reachable.{Refers, Reachable, IsClosed}
use Rattle.lxr_model.specs.Terms.{Terms}
use Rattle.lxr_model.specs.Moments.{Trace, moment, unreclaimed_after, state_at, unreclaimed_at, stuck_at, trace_at}
use Rattle.lxr_model.specs.Reports.{PauseParts, IsReportWith, remaining_names}
use Rattle.lxr_model.specs.Legal.{IsLegalSoFar}

-- ---- after a pause

-- what a pause leaves is what remains after its sweep, without its third dead; after a plain pause, which has neither
-- second nor third dead and sweeps nothing, these are the kept names
abbrev pub UnreclaimedRemain : Type 0
UnreclaimedRemain =
    (terms : Terms) (h : List Item) (report : PauseReport) (parts : PauseParts) → IsLegalSoFar terms h
    → IsReportWith (moment terms.threads h) parts report
    → unreclaimed_after (moment terms.threads h) report ≡ without (remaining_names (moment terms.threads h) parts report) parts.third_dead

-- right after a pause the unreclaimed names have the world, what registers hold and what their objects refer to
abbrev pub UnreclaimedAreClosed : Type 0
UnreclaimedAreClosed =
    (terms : Terms) (h : List Item) (report : PauseReport) → IsLegalSoFar terms (Pause report ∷ h)
    → IsClosed (state_at terms h) (has (unreclaimed_at terms (Pause report ∷ h)))

-- unreclaimed names have objects, and only unreclaimed names are stuck
abbrev pub UnreclaimedHaveObjects : Type 0
UnreclaimedHaveObjects =
    (terms : Terms) (h : List Item) → IsLegalSoFar terms h → (n : Name) → IsTrue (has (unreclaimed_at terms h) n)
    → HasObject (state_at terms h).graph n

abbrev pub StuckAreUnreclaimed : Type 0
StuckAreUnreclaimed =
    (terms : Terms) (h : List Item) → IsLegalSoFar terms h → (n : Name) → IsTrue (has (stuck_at terms h) n)
    → IsTrue (has (unreclaimed_at terms h) n)

-- ---- while a trace runs

-- what is reachable was so when the trace began, or it is younger
abbrev pub ReachableWereSoOrAreYounger : Type 0
ReachableWereSoOrAreYounger =
    (terms : Terms) (h : List Item) (trace : Trace) → IsLegalSoFar terms h → trace_at terms h ≡ Some trace
    → (n : Name) → Reachable (state_at terms h) n → Reachable trace.state n ⊎ ¬ HasObject trace.state.graph n

-- what is unreclaimed was so when the trace began, or it is younger
abbrev pub UnreclaimedWereSoOrAreYounger : Type 0
UnreclaimedWereSoOrAreYounger =
    (terms : Terms) (h : List Item) (trace : Trace) → IsLegalSoFar terms h → trace_at terms h ≡ Some trace
    → (n : Name) → IsTrue (has (unreclaimed_at terms h) n)
    → IsTrue (has trace.unreclaimed n) ⊎ ¬ HasObject trace.state.graph n

-- what was unreclaimed and unreachable when a trace began
abbrev pub IsGarbage : Trace → Name → Type 0
IsGarbage trace n = IsTrue (has trace.unreclaimed n) × ¬ Reachable trace.state n

-- it is unreclaimed as long as the trace runs, unreachable, and as it was
abbrev pub GarbageStays : Type 0
GarbageStays =
    (terms : Terms) (h : List Item) (trace : Trace) → IsLegalSoFar terms h → trace_at terms h ≡ Some trace
    → (n : Name) → IsGarbage trace n
    → IsTrue (has (unreclaimed_at terms h) n)
    × ¬ Reachable (state_at terms h) n
    × (object_at (state_at terms h).graph n ≡ object_at trace.state.graph n)

-- no other unreclaimed object refers to it
abbrev pub OnlyGarbageRefersToGarbage : Type 0
OnlyGarbageRefersToGarbage =
    (terms : Terms) (h : List Item) (trace : Trace) → IsLegalSoFar terms h → trace_at terms h ≡ Some trace
    → (u n : Name) → IsTrue (has (unreclaimed_at terms h) u) → Refers (state_at terms h).graph u n → IsGarbage trace n
    → IsGarbage trace u

-- where it isn't stuck, some garbage refers to it, perhaps its own object
abbrev pub UnstuckGarbageIsReferredTo : Type 0
UnstuckGarbageIsReferredTo =
    (terms : Terms) (h : List Item) (trace : Trace) → IsLegalSoFar terms h → trace_at terms h ≡ Some trace
    → (n : Name) → IsGarbage trace n → has (stuck_at terms h) n ≡ false
    → (u : Name) × IsGarbage trace u × Refers trace.state.graph u n
