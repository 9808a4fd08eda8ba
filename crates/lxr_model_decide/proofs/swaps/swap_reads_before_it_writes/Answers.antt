use Rattle.std.proofs.Common.{refl, [], ◌∷◌}
use Rattle.lxr_model_decide.specs.ExampleWords.{usual_terms}
use Rattle.lxr_model_decide.specs.ExampleSwaps.{swapping_over, swapping_over_run}
use Rattle.lxr_model_decide.proofs.RunLemmas.{is_run}
use Rattle.lxr_model_decide.proofs.swaps.swap_reads_before_it_writes.Goals as goal

pub returns : goal.returns
returns c = is_run usual_terms (swapping_over ∷ []) swapping_over_run (record { stand = refl; owes = refl; same = refl }) (record { calls = refl; pauses = refl })
