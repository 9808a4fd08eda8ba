use Rattle.lxr_c_arrays.proofs.NewLemmas.{new_elements_are_nil as new_elements}
use Rattle.lxr_c_arrays.proofs.laws.new_elements_are_nil.Goals as goal

pub returns : goal.returns
returns c = new_elements
