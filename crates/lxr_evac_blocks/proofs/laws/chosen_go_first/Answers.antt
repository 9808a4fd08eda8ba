use Rattle.lxr_evac_blocks.proofs.ChosenLemmas.{chosen_go_first}
use Rattle.lxr_evac_blocks.proofs.laws.chosen_go_first.Goals as goal

pub returns : goal.returns
returns c = chosen_go_first
