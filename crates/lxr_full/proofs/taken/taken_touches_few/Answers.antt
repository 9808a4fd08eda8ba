use Rattle.lxr_full.proofs.TakenLemmas.{taken_touches_few}
use Rattle.lxr_full.proofs.taken.taken_touches_few.Goals as goal

pub returns : goal.returns
returns c = taken_touches_few
