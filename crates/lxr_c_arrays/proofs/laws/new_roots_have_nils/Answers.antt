use Rattle.lxr_c_arrays.proofs.RootLemmas.{new_roots_have_nils as roots}
use Rattle.lxr_c_arrays.proofs.laws.new_roots_have_nils.Goals as goal

pub returns : goal.returns
returns c = roots
