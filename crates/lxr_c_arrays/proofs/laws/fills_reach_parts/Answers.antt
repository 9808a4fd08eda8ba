use Rattle.lxr_c_arrays.proofs.RootFillLemmas.{fills_reach_parts as fills}
use Rattle.lxr_c_arrays.proofs.laws.fills_reach_parts.Goals as goal

pub returns : goal.returns
returns c = fills
