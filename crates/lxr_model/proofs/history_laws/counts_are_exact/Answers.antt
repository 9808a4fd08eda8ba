use Rattle.lxr_model.proofs.DrainLemmas.{exact_counts}
use Rattle.lxr_model.proofs.history_laws.counts_are_exact.Goals as goal

pub returns : goal.returns
returns c = exact_counts
