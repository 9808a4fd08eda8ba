use Rattle.lxr_core.proofs.EpochOrderLemmas.{orders_keep_epochs}
use Rattle.lxr_core.proofs.orders_keep_epochs.Goals as goal

-- the law
pub returns : goal.returns
returns c = orders_keep_epochs
