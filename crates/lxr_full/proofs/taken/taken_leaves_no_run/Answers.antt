use Rattle.lxr_full.proofs.TakenLemmas.{taken_leaves_no_run}
use Rattle.lxr_full.proofs.taken.taken_leaves_no_run.Goals as goal

pub returns : goal.returns
returns c = taken_leaves_no_run
