use Rattle.lxr_c_arrays.proofs.RefusedLemmas.{whole_calls_do_all as whole}
use Rattle.lxr_c_arrays.proofs.laws.whole_calls_do_all.Goals as goal

pub returns : goal.returns
returns c = whole
