use Rattle.lxr_model.proofs.CollectLemmas.{refused_keep}
use Rattle.lxr_model.proofs.history_laws.refusals_keep_reachable.Goals as goal

pub returns : goal.returns
returns c = refused_keep
