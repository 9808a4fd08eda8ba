use Rattle.lxr_core_inv_history.proofs.KeepingLemmas.{registers_are_kept}
use Rattle.lxr_core_inv_history.proofs.replies.registers_are_kept.Goals as goal

pub returns : goal.returns
returns c = registers_are_kept
