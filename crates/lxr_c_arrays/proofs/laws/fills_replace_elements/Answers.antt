use Rattle.lxr_c_arrays.proofs.FillLemmas.{fills_replace_elements as fills}
use Rattle.lxr_c_arrays.proofs.laws.fills_replace_elements.Goals as goal

pub returns : goal.returns
returns c = fills
