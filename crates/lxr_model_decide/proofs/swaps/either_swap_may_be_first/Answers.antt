use Rattle.std.proofs.Common.{refl}
use Rattle.lxr_model_decide.specs.ExampleSwaps.{two_threads, racing, raced}
use Rattle.lxr_model_decide.proofs.RunLemmas.{is_run}
use Rattle.lxr_model_decide.proofs.swaps.either_swap_may_be_first.Goals as goal

pub returns : goal.returns
returns c = (
  is_run two_threads racing (raced 1 2) (record { stand = refl; owes = refl; same = refl }) (record { calls = refl; pauses = refl }),
  is_run two_threads racing (raced 2 1) (record { stand = refl; owes = refl; same = refl }) (record { calls = refl; pauses = refl }),
)
