use Rattle.lxr_renew.proofs.StateLemmas.{object_renewed}
use Rattle.lxr_renew.proofs.laws.objects_are_renamed.Goals as goal

pub returns : goal.returns
returns c = object_renewed
