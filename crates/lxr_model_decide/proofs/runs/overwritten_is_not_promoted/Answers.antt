use Rattle.std.proofs.Common.{refl, [], ◌∷◌}
use Rattle.lxr_model_decide.specs.ExampleWords.{usual_terms}
use Rattle.lxr_model_decide.specs.ExampleHistories.{overwriting, overwriting_run}
use Rattle.lxr_model_decide.proofs.RunLemmas.{is_run}
use Rattle.lxr_model_decide.proofs.runs.overwritten_is_not_promoted.Goals as goal

pub returns : goal.returns
returns c = is_run usual_terms (overwriting ∷ []) overwriting_run (record { stand = refl; owes = refl; same = refl }) (record { calls = refl; pauses = refl })
