use Rattle.lxr_core_inv_history.proofs.ThroughLemmas.{wanted_has_cause}
use Rattle.lxr_core_inv_history.proofs.wanted_has_cause.Goals as goal

pub returns : goal.returns
returns c = wanted_has_cause
