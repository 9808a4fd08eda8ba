use Rattle.lxr_judge.proofs.WholeLemmas.{good_pass}
use Rattle.lxr_judge.proofs.laws.good_items_pass.Goals as goal

pub returns : goal.returns
returns c = good_pass
