use Rattle.lxr_judge.proofs.OneLemmas.{verdicts_one}
use Rattle.lxr_judge.proofs.laws.verdicts_are_one.Goals as goal

pub returns : goal.returns
returns c = verdicts_one
