-- Laws of verdicts, each the contract of a function with an empty body.
use Rattle.std.specs.Prelude.{◌≡◌, ◌+◌, ◌^◌, ◌<◌, ◌↔◌, Bool, List, length}
use Rattle.lxr_graph.specs.History.{Item}
use Rattle.lxr_graph.specs.Order.{order_of}
use Rattle.lxr_text_script.specs.Limits.{IsScript}
use Rattle.lxr_text_script.specs.Reading.{threads_in}
use Rattle.lxr_text_print.specs.Histories.{history_text}
use Rattle.lxr_case.specs.declared.Case.{Case}
use Rattle.lxr_case.specs.declared.Terms as given
use Rattle.lxr_model.specs.Legal.{IsLegal}
use Rattle.lxr_model.specs.Belongs.{EndsWithPause, Belongs}
use Rattle.lxr_judge.specs.declared.verdict.Verdict.{Verdict}
use Rattle.lxr_judge.specs.declared.verdict.Verdict.TheVariants as verdict
use Rattle.lxr_judge.specs.Evidence.{Evidence, terms_of}
use Rattle.lxr_judge.specs.Taking.{TakesAll, IsHistoryOf}
use Rattle.lxr_judge.specs.Passing.{AllPass}
use Rattle.lxr_judge.specs.Verdicts.{IsVerdict}

-- a case has one verdict
abbrev pub VerdictsAreOne : Type 0
VerdictsAreOne = (case : Case) (terms : given.Terms) (v w : Verdict) → IsVerdict case terms v → IsVerdict case terms w → v ≡ w

-- the items of a history that is legal and belongs pass, one after the other
abbrev pub GoodItemsPass : Type 0
GoodItemsPass =
    (e : Evidence) (h : List Item) → IsHistoryOf e h → IsLegal e.terms h → Belongs e.terms e.script h → AllPass e h

-- where all items of a case pass and nothing is left over, and the last is the first pause behind all ends, its history is legal and belongs
abbrev pub PassingIsGood : Type 0
PassingIsGood =
    (e : Evidence) (h : List Item) → AllPass e h → length h ≡ length e.order → TakesAll e h → EndsWithPause e.terms h
    → IsHistoryOf e h × IsLegal e.terms h × Belongs e.terms e.script h

-- a case has the whole text that a history prints, and its order
pub record IsOwnCase (case : Case) (counts : Bool) (h : List Item) : Type 0 where
  pub output : case.output.items ≡ history_text counts (length (threads_in case.script)) h
  pub order : case.order.items ≡ order_of h

-- Where a case has the text and the order of a history that is legal and belongs to its script, the verdict is yes, and no other. The
-- history is short enough that its items can be counted.
abbrev pub OwnOutputIsGood : Type 0
OwnOutputIsGood =
    (case : Case) (terms : given.Terms) (h : List Item) → IsScript (threads_in case.script) → length h + 1 < 2 ^ 32 → IsOwnCase case terms.counts h
    → IsLegal (terms_of (length (threads_in case.script)) terms) h → Belongs (terms_of (length (threads_in case.script)) terms) (threads_in case.script) h
    → (v : Verdict) → IsVerdict case terms v ↔ (v ≡ verdict.Yes)
