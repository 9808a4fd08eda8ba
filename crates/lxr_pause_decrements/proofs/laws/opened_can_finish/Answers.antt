use Rattle.lxr_pause_decrements.proofs.OpenedLemmas.{opened_can_finish}
use Rattle.lxr_pause_decrements.proofs.laws.opened_can_finish.Goals as goal

pub returns : goal.returns
returns c = opened_can_finish
