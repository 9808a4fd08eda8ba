use Rattle.lxr_core_inv_history.proofs.ThroughLemmas.{calls_are_beginnings}
use Rattle.lxr_core_inv_history.proofs.calls_are_beginnings.Goals as goal

pub returns : goal.returns
returns c = calls_are_beginnings
