use Rattle.lxr_rounds_invariant.proofs.EndLemmas.{runs_end}
use Rattle.lxr_rounds_invariant.proofs.runs_end.Goals as goal

pub returns : goal.returns
returns c = runs_end
