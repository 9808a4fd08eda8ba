use Rattle.lxr_c_arrays.proofs.ElementLemmas.{length_counts}
use Rattle.lxr_c_arrays.proofs.laws.length_counts_elements.Goals as goal

pub returns : goal.returns
returns c = length_counts
