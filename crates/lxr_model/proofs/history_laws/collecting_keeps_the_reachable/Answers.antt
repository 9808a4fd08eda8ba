use Rattle.lxr_model.proofs.CollectLemmas.{collecting_keeps}
use Rattle.lxr_model.proofs.history_laws.collecting_keeps_the_reachable.Goals as goal

pub returns : goal.returns
returns c = collecting_keeps
