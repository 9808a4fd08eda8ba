-- Laws of legal histories, each the contract of a function with an empty body.
use Rattle.std.specs.Prelude.{◌≡◌, ◌≢◌, ℕ, ◌+◌, ◌⊎◌, ◌↔◌, false, Some, None, List, ◌∷◌, IsTrue, length, map, slice_get}
use Rattle.lxr_layout.specs.declared.Name.{Name}
use Rattle.lxr_graph.specs.declared.report.Kind.TheVariants as kind
use Rattle.lxr_graph.specs.declared.report.Count.{Count}
use Rattle.lxr_graph.specs.Names.{has}
use Rattle.lxr_graph.specs.State.{State, HasObject}
use Rattle.lxr_graph.specs.History.{PauseReport, Item, Pause}
use Rattle.lxr_model.specs.Reachable.{Reachable}
use Rattle.lxr_model.specs.References.{references}
use Rattle.lxr_model.specs.Terms.{Terms}
use Rattle.lxr_model.specs.Moments.{moment, state_at, unreclaimed_at, stuck_at}
use Rattle.lxr_model.specs.Reports.{is_draining}
use Rattle.lxr_model.specs.Full.{IsRightAfterCollecting}
use Rattle.lxr_model.specs.Legal.{IsLegalSoFar, IsLegal}
use Rattle.lxr_model.specs.Belongs.{Script, Belongs, IsHistorySoFar}

-- ---- what is reachable

-- no name that a pause reclaims, dead or swept, is reachable there
abbrev pub ReclaimedAreUnreachable : Type 0
ReclaimedAreUnreachable =
    (terms : Terms) (h : List Item) (report : PauseReport) → IsLegalSoFar terms (Pause report ∷ h) → (o : Name)
    → IsTrue (has report.dead o) ⊎ IsTrue (has report.swept o) → ¬ Reachable (state_at terms h) o

-- what is reachable at a pause is unreclaimed after it
abbrev pub ReachableAreKept : Type 0
ReachableAreKept =
    (terms : Terms) (h : List Item) (report : PauseReport) → IsLegalSoFar terms (Pause report ∷ h) → (n : Name)
    → Reachable (state_at terms h) n → IsTrue (has (unreclaimed_at terms (Pause report ∷ h)) n)

-- what is reachable was so at the last pause, or was made since
abbrev pub ReachableAreOldOrMade : Type 0
ReachableAreOldOrMade =
    (terms : Terms) (h : List Item) → IsLegalSoFar terms h → (n : Name) → Reachable (state_at terms h) n
    → Reachable (moment terms.threads h).last n ⊎ IsTrue (has (moment terms.threads h).made n)

-- names made since the last pause have objects now, and had none there
abbrev pub MadeAreYoung : Type 0
MadeAreYoung =
    (terms : Terms) (h : List Item) → IsLegalSoFar terms h → (n : Name) → IsTrue (has (moment terms.threads h).made n)
    → ¬ HasObject (moment terms.threads h).last.graph n × HasObject (state_at terms h).graph n

-- the graph has a row for each thread, and one for the world
abbrev pub RowsAreThreads : Type 0
RowsAreThreads =
    (terms : Terms) (h : List Item) → IsLegalSoFar terms h → length (state_at terms h).graph ≡ terms.threads + 1

-- the unreclaimed names after a collecting pause are exactly the reachable ones
abbrev pub CollectingKeepsTheReachable : Type 0
CollectingKeepsTheReachable =
    (terms : Terms) (h : List Item) (report : PauseReport) → IsLegalSoFar terms (Pause report ∷ h)
    → report.kind ≡ kind.Collect → (n : Name)
    → IsTrue (has (unreclaimed_at terms (Pause report ∷ h)) n) ↔ Reachable (state_at terms h) n

-- so it is as long as nothing but refused calls of `new` stand behind it
abbrev pub RefusalsKeepReachable : Type 0
RefusalsKeepReachable =
    (terms : Terms) (h : List Item) → IsLegalSoFar terms h → IsRightAfterCollecting h
    → (n : Name) → IsTrue (has (unreclaimed_at terms h) n) ↔ Reachable (state_at terms h) n

-- the unreclaimed names at the end of a history that belongs to a script are exactly the reachable ones
abbrev pub LastUnreclaimedAreReachable : Type 0
LastUnreclaimedAreReachable =
    (terms : Terms) (script : Script) (h : List Item) → IsLegal terms h → Belongs terms script h → (n : Name) → IsTrue (has (unreclaimed_at terms h) n) ↔ Reachable (state_at terms h) n

-- ---- as far as it goes

-- a whole history is one so far
abbrev pub WholeHistoriesAreSoFar : Type 0
WholeHistoriesAreSoFar = (terms : Terms) (script : Script) (h : List Item) → IsLegal terms h → Belongs terms script h → IsHistorySoFar terms script h

-- ---- counts

-- after a draining pause each unreclaimed name that isn't stuck has a reference
abbrev pub DrainingLeavesNoZero : Type 0
DrainingLeavesNoZero =
    (terms : Terms) (h : List Item) (report : PauseReport) → IsLegalSoFar terms (Pause report ∷ h)
    → IsTrue (is_draining report.kind) → (o : Name) → IsTrue (has (unreclaimed_at terms (Pause report ∷ h)) o)
    → has (stuck_at terms (Pause report ∷ h)) o ≡ false
    → references (state_at terms h) (unreclaimed_at terms (Pause report ∷ h)) o ≢ 0

-- a count is none exactly where its name is stuck, and else the references to it counted afresh
pub record IsExactCount (s : State) (us stuck : List Name) (c : Count) : Type 0 where
  pub none : (c.count ≡ None) ↔ IsTrue (has stuck c.name)
  pub some : has stuck c.name ≡ false → c.count ≡ Some (references s us c.name)

-- the counts of a draining pause are those of the unreclaimed names after it, in their order, and each is exact
abbrev pub CountsAreExact : Type 0
CountsAreExact =
    (terms : Terms) (h : List Item) (report : PauseReport) → IsLegalSoFar terms (Pause report ∷ h)
    → IsTrue (is_draining report.kind)
    → (map (λ c. c.name) report.counts ≡ unreclaimed_at terms (Pause report ∷ h))
    × ((i : ℕ) (c : Count) → slice_get report.counts i ≡ Some c
    → IsExactCount (state_at terms h) (unreclaimed_at terms (Pause report ∷ h)) (stuck_at terms (Pause report ∷ h)) c)
