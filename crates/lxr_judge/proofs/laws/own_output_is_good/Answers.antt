use Rattle.lxr_judge.proofs.OwnOutputLemmas.{own_output_good}
use Rattle.lxr_judge.proofs.laws.own_output_is_good.Goals as goal

pub returns : goal.returns
returns c = own_output_good
