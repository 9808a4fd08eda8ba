use Rattle.lxr_core_inv_history.proofs.ReplyLemmas.{replies_are_steps}
use Rattle.lxr_core_inv_history.proofs.replies.replies_are_steps.Goals as goal

pub returns : goal.returns
returns c = replies_are_steps
