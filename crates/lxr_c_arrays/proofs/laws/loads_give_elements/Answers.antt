use Rattle.lxr_c_arrays.proofs.LoadLemmas.{loads_give_elements as loads}
use Rattle.lxr_c_arrays.proofs.laws.loads_give_elements.Goals as goal

pub returns : goal.returns
returns c = loads
