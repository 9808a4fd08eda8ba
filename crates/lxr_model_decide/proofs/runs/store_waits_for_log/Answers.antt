use Rattle.std.proofs.Common.{refl, [], ◌∷◌}
use Rattle.lxr_model_decide.specs.ExampleHistories.{one_entry, storing_twice, storing_twice_run}
use Rattle.lxr_model_decide.proofs.RunLemmas.{is_run}
use Rattle.lxr_model_decide.proofs.runs.store_waits_for_log.Goals as goal

pub returns : goal.returns
returns c = is_run one_entry (storing_twice ∷ []) storing_twice_run (record { stand = refl; owes = refl; same = refl }) (record { calls = refl; pauses = refl })
