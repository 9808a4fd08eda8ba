use Rattle.lxr_full.proofs.TouchedLemmas.{no_run_touches_all}
use Rattle.lxr_full.proofs.touched.no_run_touches_all.Goals as goal

pub returns : goal.returns
returns c = no_run_touches_all
