use Rattle.std.proofs.Common.{refl, [], ◌∷◌}
use Rattle.lxr_layout.specs.declared.TheConstants.{STUCK}
use Rattle.lxr_model_decide.specs.ExampleWords.{usual_terms}
use Rattle.lxr_model_decide.specs.ExampleHistories.{letting_go, sticking_run}
use Rattle.lxr_model_decide.proofs.RunLemmas.{is_run}
use Rattle.lxr_model_decide.proofs.runs.stuck_is_swept.Goals as goal

pub returns : goal.returns
returns c = is_run usual_terms (letting_go STUCK ∷ []) sticking_run (record { stand = refl; owes = refl; same = refl }) (record { calls = refl; pauses = refl })
