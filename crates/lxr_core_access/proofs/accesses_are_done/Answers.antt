use Rattle.lxr_core_access.proofs.AccessLemmas.{access_done}
use Rattle.lxr_core_access.proofs.accesses_are_done.Goals as goal

pub returns : goal.returns
returns c = λ l r words d are size may. access_done l r words are size d may
