use Rattle.lxr_rounds_invariant.proofs.RenewingLemmas.{runs_renewed}
use Rattle.lxr_rounds_invariant.proofs.runs_are_renewed.Goals as goal

pub returns : goal.returns
returns c = runs_renewed
