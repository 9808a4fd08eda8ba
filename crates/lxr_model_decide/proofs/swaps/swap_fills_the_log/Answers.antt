use Rattle.std.proofs.Common.{refl, [], ◌∷◌}
use Rattle.lxr_model_decide.specs.ExampleHistories.{one_entry}
use Rattle.lxr_model_decide.specs.ExampleSwaps.{filling_the_log, filling_the_log_run}
use Rattle.lxr_model_decide.proofs.RunLemmas.{is_run}
use Rattle.lxr_model_decide.proofs.swaps.swap_fills_the_log.Goals as goal

pub returns : goal.returns
returns c = is_run one_entry (filling_the_log ∷ []) filling_the_log_run (record { stand = refl; owes = refl; same = refl }) (record { calls = refl; pauses = refl })
