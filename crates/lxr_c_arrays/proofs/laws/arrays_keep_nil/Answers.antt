use Rattle.lxr_c_arrays.proofs.OwnLemmas.{arrays_keep_nil as kept}
use Rattle.lxr_c_arrays.proofs.laws.arrays_keep_nil.Goals as goal

pub returns : goal.returns
returns c = kept
