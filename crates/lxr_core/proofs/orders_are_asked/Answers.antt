use Rattle.lxr_core.proofs.ScriptLemmas.{orders_are_asked}
use Rattle.lxr_core.proofs.orders_are_asked.Goals as goal

-- the law
pub returns : goal.returns
returns c = orders_are_asked
