use Rattle.std.proofs.Common.{refl, [], ◌∷◌}
use Rattle.lxr_model_decide.specs.ExampleWords.{usual_terms}
use Rattle.lxr_model_decide.specs.ExampleSwaps.{swapping_and_adding, swapping_and_adding_run}
use Rattle.lxr_model_decide.proofs.RunLemmas.{is_run}
use Rattle.lxr_model_decide.proofs.swaps.swaps_and_adds_are_steps.Goals as goal

pub returns : goal.returns
returns c = is_run usual_terms (swapping_and_adding ∷ []) swapping_and_adding_run (record { stand = refl; owes = refl; same = refl }) (record { calls = refl; pauses = refl })
