use Rattle.lxr_model.proofs.DrainLemmas.{no_zero}
use Rattle.lxr_model.proofs.history_laws.draining_leaves_no_zero.Goals as goal

pub returns : goal.returns
returns c = no_zero
