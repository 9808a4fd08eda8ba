-- Laws of legal histories: from one renewal of names to the next a name is promoted once, reclaimed once, and not promoted after it was
-- reclaimed.
use Rattle.std.specs.Prelude.{◌≡◌, false, List, [], ◌∷◌, ◌++◌, IsTrue}
use Rattle.lxr_layout.specs.declared.Name.{Name}
use Rattle.lxr_graph.specs.Names.{has}
use Rattle.lxr_graph.specs.History.{PauseReport, Item, Call, Pause, Renew}
use Rattle.lxr_model.specs.Terms.{Terms}
use Rattle.lxr_model.specs.Legal.{IsLegalSoFar}

-- the names that a pause reclaims
abbrev pub reclaimed_by : PauseReport → List Name
reclaimed_by report = report.dead ++ report.swept

-- all names that the pauses of a history reclaimed since names were last renewed, and all that they promoted
abbrev pub names_reclaimed : List Item → List Name
names_reclaimed [] = []
names_reclaimed (Renew ns ∷ h) = []
names_reclaimed (Call t o r ∷ h) = names_reclaimed h
names_reclaimed (Pause report ∷ h) = reclaimed_by report ++ names_reclaimed h

abbrev pub names_promoted : List Item → List Name
names_promoted [] = []
names_promoted (Renew ns ∷ h) = []
names_promoted (Call t o r ∷ h) = names_promoted h
names_promoted (Pause report ∷ h) = report.promoted ++ names_promoted h

-- what a pause reclaims no pause reclaimed before
abbrev pub ReclaimedOnce : Type 0
ReclaimedOnce =
    (terms : Terms) (h : List Item) (report : PauseReport) → IsLegalSoFar terms (Pause report ∷ h) → (o : Name)
    → IsTrue (has (reclaimed_by report) o) → has (names_reclaimed h) o ≡ false

-- no pause reports a name as dead and as swept
abbrev pub DeadAreNotSwept : Type 0
DeadAreNotSwept =
    (terms : Terms) (h : List Item) (report : PauseReport) → IsLegalSoFar terms (Pause report ∷ h) → (o : Name)
    → IsTrue (has report.dead o) → has report.swept o ≡ false

-- what a pause promotes no pause promoted or reclaimed before
abbrev pub PromotedOnce : Type 0
PromotedOnce =
    (terms : Terms) (h : List Item) (report : PauseReport) → IsLegalSoFar terms (Pause report ∷ h) → (o : Name)
    → IsTrue (has report.promoted o) → (has (names_promoted h) o ≡ false) × (has (names_reclaimed h) o ≡ false)
