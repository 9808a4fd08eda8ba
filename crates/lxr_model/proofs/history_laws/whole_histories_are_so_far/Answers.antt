use Rattle.lxr_model.proofs.CollectLemmas.{whole_so_far}
use Rattle.lxr_model.proofs.history_laws.whole_histories_are_so_far.Goals as goal

pub returns : goal.returns
returns c = whole_so_far
