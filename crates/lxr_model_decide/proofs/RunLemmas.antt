-- A history is a run of a script where the computed tests find it so.
use Rattle.std.proofs.Common.{List}
use Rattle.std.specs.Prelude.{reverse}
use Rattle.lxr_graph.specs.History.{Item}
use Rattle.lxr_model.specs.Terms.{Terms}
use Rattle.lxr_model.specs.Belongs.{Script}
use Rattle.lxr_model_decide.specs.Legality.{IsFoundLegal}
use Rattle.lxr_model_decide.specs.Belonging.{IsFoundBelonging}
use Rattle.lxr_model_decide.proofs.LegalityLemmas.{legal_by_tests}
use Rattle.lxr_model_decide.proofs.BelongingLemmas.{belongs_by_tests}
use Rattle.lxr_model_decide.specs.ExampleWords.{IsRunOf}

pub is_run : (terms : Terms) (script : Script) (items : List Item)
    → IsFoundLegal terms (reverse items) → IsFoundBelonging terms script (reverse items) → IsRunOf terms script items
is_run terms script items legal belongs = record {
  legal = legal_by_tests terms (reverse items) legal;
  belongs = belongs_by_tests terms script (reverse items) belongs;
}
