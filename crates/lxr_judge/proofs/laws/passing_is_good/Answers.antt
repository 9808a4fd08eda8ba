use Rattle.lxr_judge.proofs.GoodLemmas.{passing_good}
use Rattle.lxr_judge.proofs.laws.passing_is_good.Goals as goal

pub returns : goal.returns
returns c = passing_good
