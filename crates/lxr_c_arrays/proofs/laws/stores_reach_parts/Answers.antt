use Rattle.lxr_c_arrays.proofs.PartLemmas.{stores_reach_parts as stores}
use Rattle.lxr_c_arrays.proofs.laws.stores_reach_parts.Goals as goal

pub returns : goal.returns
returns c = stores
