use Rattle.lxr_model_counting.proofs.LeavingLemmas.{lowered_counts}
use Rattle.lxr_model_counting.proofs.draining.lowered_counts_are_references.Goals as goal

pub returns : goal.returns
returns c = lowered_counts
