use Rattle.lxr_c_arrays.proofs.KeptLemmas.{arrays_keep_registers as kept}
use Rattle.lxr_c_arrays.proofs.laws.arrays_keep_registers.Goals as goal

pub returns : goal.returns
returns c = kept
