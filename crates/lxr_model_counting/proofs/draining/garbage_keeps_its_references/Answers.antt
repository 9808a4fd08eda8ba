use Rattle.lxr_model_counting.proofs.LeavingLemmas.{garbage_referred}
use Rattle.lxr_model_counting.proofs.draining.garbage_keeps_its_references.Goals as goal

pub returns : goal.returns
returns c = garbage_referred
