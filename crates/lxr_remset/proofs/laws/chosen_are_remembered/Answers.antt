use Rattle.lxr_remset.proofs.ChosenLemmas.{chosen_are_remembered}
use Rattle.lxr_remset.proofs.laws.chosen_are_remembered.Goals as goal

pub returns : goal.returns
returns c = chosen_are_remembered
