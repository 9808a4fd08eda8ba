use Rattle.lxr_core_inv_history.proofs.EndLemmas.{ends_are_counted}
use Rattle.lxr_core_inv_history.proofs.ends_are_counted.Goals as goal

pub returns : goal.returns
returns c = ends_are_counted
