use Rattle.lxr_model_counting.proofs.PauseLemmas.{counts_afresh}
use Rattle.lxr_model_counting.proofs.draining.counts_are_references.Goals as goal

pub returns : goal.returns
returns c = counts_afresh
