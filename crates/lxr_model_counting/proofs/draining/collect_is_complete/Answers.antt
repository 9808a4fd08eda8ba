use Rattle.lxr_model_counting.proofs.PauseLemmas.{collects}
use Rattle.lxr_model_counting.proofs.draining.collect_is_complete.Goals as goal

pub returns : goal.returns
returns c = collects
