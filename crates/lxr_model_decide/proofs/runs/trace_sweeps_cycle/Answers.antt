use Rattle.std.proofs.Common.{refl, [], ◌∷◌}
use Rattle.lxr_model_decide.specs.ExampleHistories.{traced_terms, traced_cycle, traced_cycle_run}
use Rattle.lxr_model_decide.proofs.RunLemmas.{is_run}
use Rattle.lxr_model_decide.proofs.runs.trace_sweeps_cycle.Goals as goal

pub returns : goal.returns
returns c = is_run traced_terms (traced_cycle ∷ []) traced_cycle_run (record { stand = refl; owes = refl; same = refl }) (record { calls = refl; pauses = refl })
