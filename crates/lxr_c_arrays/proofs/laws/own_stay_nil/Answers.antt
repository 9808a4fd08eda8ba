use Rattle.lxr_c_arrays.proofs.LedLemmas.{own_stay_nil as stay}
use Rattle.lxr_c_arrays.proofs.laws.own_stay_nil.Goals as goal

pub returns : goal.returns
returns c = stay
