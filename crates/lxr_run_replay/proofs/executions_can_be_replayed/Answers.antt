use Rattle.lxr_run_replay.proofs.ClosingLemmas.{can_be_replayed}
use Rattle.lxr_run_replay.proofs.executions_can_be_replayed.Goals as goal

pub returns : goal.returns
returns c = can_be_replayed
