use Rattle.std.proofs.Common.{refl, [], ◌∷◌}
use Rattle.lxr_model_decide.specs.ExampleHistories.{eight_blocks, holding, holding_run}
use Rattle.lxr_model_decide.proofs.RunLemmas.{is_run}
use Rattle.lxr_model_decide.proofs.runs.held_is_the_same.Goals as goal

pub returns : goal.returns
returns c = is_run eight_blocks (holding ∷ []) holding_run (record { stand = refl; owes = refl; same = refl }) (record { calls = refl; pauses = refl })
