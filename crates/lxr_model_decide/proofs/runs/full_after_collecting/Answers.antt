use Rattle.std.proofs.Common.{refl, [], ◌∷◌}
use Rattle.lxr_model_decide.specs.ExampleHistories.{one_block, filling, filling_run}
use Rattle.lxr_model_decide.proofs.RunLemmas.{is_run}
use Rattle.lxr_model_decide.proofs.runs.full_after_collecting.Goals as goal

pub returns : goal.returns
returns c = is_run one_block (filling ∷ []) filling_run (record { stand = refl; owes = refl; same = refl }) (record { calls = refl; pauses = refl })
