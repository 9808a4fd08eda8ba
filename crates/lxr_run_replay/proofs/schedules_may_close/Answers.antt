use Rattle.lxr_run_replay.proofs.ClosingLemmas.{may_close}
use Rattle.lxr_run_replay.proofs.schedules_may_close.Goals as goal

pub returns : goal.returns
returns c = may_close
