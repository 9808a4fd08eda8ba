use Rattle.lxr_remset.proofs.SetLemmas.{remembering_keeps_set}
use Rattle.lxr_remset.proofs.laws.remembering_keeps_set.Goals as goal

pub returns : goal.returns
returns c = remembering_keeps_set
