use Rattle.lxr_full.proofs.TouchedLemmas.{handing_out_touches_few}
use Rattle.lxr_full.proofs.touched.handing_out_touches_few.Goals as goal

pub returns : goal.returns
returns c = handing_out_touches_few
