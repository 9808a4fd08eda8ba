use Rattle.std.proofs.Common.{refl, [], ◌∷◌}
use Rattle.lxr_model_decide.specs.ExampleWords.{usual_terms}
use Rattle.lxr_model_decide.specs.ExampleHistories.{storing_again, storing_again_run}
use Rattle.lxr_model_decide.proofs.RunLemmas.{is_run}
use Rattle.lxr_model_decide.proofs.runs.stored_again_counts_once.Goals as goal

pub returns : goal.returns
returns c = is_run usual_terms (storing_again ∷ []) storing_again_run (record { stand = refl; owes = refl; same = refl }) (record { calls = refl; pauses = refl })
