use Rattle.lxr_run_replay.proofs.CallsLemmas.{placed_called}
use Rattle.lxr_run_replay.proofs.placed_are_calls.Goals as goal

pub returns : goal.returns
returns c = placed_called
