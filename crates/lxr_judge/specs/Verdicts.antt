-- The verdict on a case: yes, or no with the number of an item, from 1.
use Rattle.std.specs.Prelude.{◌≡◌, ℕ, suc, ◌≤◌, ◌⊎◌, Option, Some, None, List, length}
use Rattle.lxr_graph.specs.History.{Item}
use Rattle.lxr_text_script.specs.Lines.{Text}
use Rattle.lxr_text_script.specs.Reading.{threads_in}
use Rattle.lxr_judge_output.specs.Form.{Gathered, output_read}
use Rattle.lxr_case.specs.declared.Case.{Case}
use Rattle.lxr_case.specs.declared.Terms as given
use Rattle.lxr_model.specs.Legal.{IsLegal}
use Rattle.lxr_model.specs.Belongs.{Belongs, EndsWithPause}
use Rattle.lxr_judge.specs.declared.verdict.Verdict.{Verdict}
use Rattle.lxr_judge.specs.declared.verdict.Verdict.TheVariants as verdict
use Rattle.lxr_judge.specs.Evidence.{Evidence, evidence_of}
use Rattle.lxr_judge.specs.Taking.{IsHistoryOf, TakesAll}
use Rattle.lxr_judge.specs.Passing.{Passes, AllPass}

-- yes: the history of the case is legal and belongs to the script
pub record IsGood (e : Evidence) : Type 0 where
  pub history : List Item
  pub is_its : IsHistoryOf e history
  pub legal : IsLegal e.terms history
  pub belongs : Belongs e.terms e.script history

-- item n is the first that fails: those before it pass, and it doesn't, whatever is read from what it takes
pub record FailsFirst (e : Evidence) (n : ℕ) : Type 0 where
  pub before : List Item
  pub pass : AllPass e before
  pub place : suc (length before) ≡ n
  pub is_item : n ≤ length e.order
  pub fails : (x : Item) → ¬ Passes e before x

-- all items pass, and n is one past the last; but something is left over, or the last isn't the first pause behind all ends
pub record LacksEnd (e : Evidence) (n : ℕ) : Type 0 where
  pub history : List Item
  pub pass : AllPass e history
  pub order : length history ≡ length e.order
  pub place : n ≡ suc (length e.order)
  pub lacks : ¬ (TakesAll e history × EndsWithPause e.terms history)

-- the verdict where this is gathered of the output: without the form of an output it is `no 0`
abbrev pub IsVerdictBy : Case → given.Terms → Option (Gathered Text) → Verdict → Type 0
IsVerdictBy case terms None verdict.Yes = ⊥
IsVerdictBy case terms None (verdict.No n) = n ≡ 0
IsVerdictBy case terms (Some g) verdict.Yes = IsGood (evidence_of case terms g)
IsVerdictBy case terms (Some g) (verdict.No n) = FailsFirst (evidence_of case terms g) n ⊎ LacksEnd (evidence_of case terms g) n

-- the verdict on a case under terms
abbrev pub IsVerdict : Case → given.Terms → Verdict → Type 0
IsVerdict case terms v = IsVerdictBy case terms (output_read terms.counts (length (threads_in case.script)) case.output.items) v
