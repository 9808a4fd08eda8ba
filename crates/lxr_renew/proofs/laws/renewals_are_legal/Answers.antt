use Rattle.lxr_renew.proofs.SoundLemmas.{legal_renewed}
use Rattle.lxr_renew.proofs.laws.renewals_are_legal.Goals as goal

pub returns : goal.returns
returns c = legal_renewed
