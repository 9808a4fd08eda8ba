use Rattle.lxr_c_arrays.proofs.RootCopyLemmas.{copies_enter_parts as copies}
use Rattle.lxr_c_arrays.proofs.laws.copies_enter_parts.Goals as goal

pub returns : goal.returns
returns c = copies
