use Rattle.lxr_decrement.proofs.StayLemmas.{stay_so}
use Rattle.lxr_decrement.proofs.laws.decrementers_stay_so.Goals as goal

pub returns : goal.returns
returns c = stay_so
