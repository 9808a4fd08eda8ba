use Rattle.lxr_renew.proofs.SoundLemmas.{sound}
use Rattle.lxr_renew.proofs.laws.renewals_are_sound.Goals as goal

pub returns : goal.returns
returns c = sound
