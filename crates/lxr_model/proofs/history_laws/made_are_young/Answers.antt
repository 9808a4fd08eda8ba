use Rattle.lxr_model.proofs.HistoryLemmas.{made_young}
use Rattle.lxr_model.proofs.history_laws.made_are_young.Goals as goal

pub returns : goal.returns
returns c = made_young
