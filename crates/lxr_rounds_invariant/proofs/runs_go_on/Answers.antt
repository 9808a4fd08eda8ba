use Rattle.lxr_rounds_invariant.proofs.TurnLemmas.{runs_go_on}
use Rattle.lxr_rounds_invariant.proofs.runs_go_on.Goals as goal

pub returns : goal.returns
returns c = runs_go_on
