use Rattle.lxr_core_inv_history.proofs.RegistersLeftLemmas.{registers_are_left}
use Rattle.lxr_core_inv_history.proofs.replies.registers_are_left.Goals as goal

pub returns : goal.returns
returns c = registers_are_left
