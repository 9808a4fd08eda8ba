use Rattle.lxr_c_arrays.proofs.AllReachedLemmas.{new_keeps_reached as keeps}
use Rattle.lxr_c_arrays.proofs.laws.new_keeps_reached.Goals as goal

pub returns : goal.returns
returns c = keeps
