use Rattle.std.proofs.Common.{refl, [], ◌∷◌}
use Rattle.lxr_model_decide.specs.ExampleWords.{usual_terms}
use Rattle.lxr_model_decide.specs.ExampleHistories.{cycle, cycle_run}
use Rattle.lxr_model_decide.proofs.RunLemmas.{is_run}
use Rattle.lxr_model_decide.proofs.runs.cycle_is_swept.Goals as goal

pub returns : goal.returns
returns c = is_run usual_terms (cycle ∷ []) cycle_run (record { stand = refl; owes = refl; same = refl }) (record { calls = refl; pauses = refl })
