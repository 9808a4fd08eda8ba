use Rattle.lxr_c_arrays.proofs.CopyLemmas.{copies_replace_elements as copies}
use Rattle.lxr_c_arrays.proofs.laws.copies_replace_elements.Goals as goal

pub returns : goal.returns
returns c = copies
