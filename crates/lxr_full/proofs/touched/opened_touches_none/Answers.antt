use Rattle.lxr_full.proofs.TouchedLemmas.{opened_touches_none}
use Rattle.lxr_full.proofs.touched.opened_touches_none.Goals as goal

pub returns : goal.returns
returns c = opened_touches_none
