use Rattle.lxr_core_inv_trace.proofs.InsideKeepingLemmas.{inside_is_kept}
use Rattle.lxr_core_inv_trace.proofs.inside.inside_is_kept.Goals as goal

pub returns : goal.returns
returns c = inside_is_kept
