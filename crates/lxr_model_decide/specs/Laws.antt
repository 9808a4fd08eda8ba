-- What is computed is what the model defines, each the contract of a function with an empty body.
use Rattle.std.specs.Prelude.{◌≡◌, ◌↔◌, false, List}
use Rattle.lxr_layout.specs.declared.Name.{Name}
use Rattle.lxr_graph.specs.declared.report.Kind.{Kind}
use Rattle.lxr_graph.specs.Names.{IsSetOf}
use Rattle.lxr_graph.specs.State.{State}
use Rattle.lxr_graph.specs.History.{Item}
use Rattle.lxr_model.specs.Terms.{Terms}
use Rattle.lxr_model.specs.Reachable.{Reachable}
use Rattle.lxr_model.specs.Dead.{Dead, Promoted}
use Rattle.lxr_model.specs.Moments.{Moment}
use Rattle.lxr_model.specs.Reports.{IsReport}
use Rattle.lxr_model.specs.Legal.{IsLegal}
use Rattle.lxr_model.specs.Belongs.{Script, Belongs}
use Rattle.lxr_model_decide.specs.Sets.{reachable_names, dead_names, promoted_names}
use Rattle.lxr_model_decide.specs.Reports.{report_at, CanBe}
use Rattle.lxr_model_decide.specs.Legality.{IsFoundLegal}
use Rattle.lxr_model_decide.specs.Belonging.{IsFoundBelonging}

-- ---- least sets

-- the list of reachable names has what is reachable, in order
abbrev pub ReachableNamesAreRight : Type 0
ReachableNamesAreRight = (s : State) → IsSetOf (reachable_names s) (Reachable s)

-- the list of the dead of U has what is dead in U, in order
abbrev pub DeadNamesAreRight : Type 0
DeadNamesAreRight = (s : State) (us stuck : List Name) → IsSetOf (dead_names s us stuck) (Dead s us stuck)

-- the list of promoted names has what is promoted, in order
abbrev pub PromotedNamesAreRight : Type 0
PromotedNamesAreRight = (s : State) (kept made : List Name) → IsSetOf (promoted_names s kept made) (Promoted s kept made)

-- ---- reports

-- what is computed from a moment and a kind is a report of that kind
abbrev pub ReportsAreRight : Type 0
ReportsAreRight = (m : Moment) (k : Kind) → CanBe m k → IsReport m (report_at m k)

-- ---- legality

-- a history in which names are never renewed is legal exactly where it is found so
abbrev pub LegalityIsComputed : Type 0
LegalityIsComputed = (terms : Terms) (h : List Item) → terms.renews ≡ false → IsLegal terms h ↔ IsFoundLegal terms h

-- a history belongs to a script exactly where it is found so
abbrev pub BelongingIsComputed : Type 0
BelongingIsComputed = (terms : Terms) (script : Script) (h : List Item) → Belongs terms script h ↔ IsFoundBelonging terms script h
