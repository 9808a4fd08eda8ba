use Rattle.lxr_c_arrays.proofs.StoreLemmas.{stores_replace_elements as stores}
use Rattle.lxr_c_arrays.proofs.laws.stores_replace_elements.Goals as goal

pub returns : goal.returns
returns c = stores
