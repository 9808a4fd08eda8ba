use Rattle.lxr_one_pause.proofs.OpenedLemmas.{opened_can_pause}
use Rattle.lxr_one_pause.proofs.laws.opened_can_pause.Goals as goal

pub returns : goal.returns
returns c = opened_can_pause
