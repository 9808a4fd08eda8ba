use Rattle.std.proofs.Common.{refl, ◌-◌, [], ◌∷◌}
use Rattle.lxr_layout.specs.declared.TheConstants.{STUCK}
use Rattle.lxr_model_decide.specs.ExampleWords.{usual_terms}
use Rattle.lxr_model_decide.specs.ExampleHistories.{letting_go, letting_go_run}
use Rattle.lxr_model_decide.proofs.RunLemmas.{is_run}
use Rattle.lxr_model_decide.proofs.runs.let_go_is_dead.Goals as goal

pub returns : goal.returns
returns c = (
  is_run usual_terms (letting_go 3 ∷ []) (letting_go_run 3) (record { stand = refl; owes = refl; same = refl }) (record { calls = refl; pauses = refl }),
  is_run usual_terms (letting_go (STUCK - 1) ∷ []) (letting_go_run (STUCK - 1)) (record { stand = refl; owes = refl; same = refl }) (record { calls = refl; pauses = refl }),
)
