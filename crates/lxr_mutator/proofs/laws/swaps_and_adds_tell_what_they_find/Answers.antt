use Rattle.lxr_mutator.proofs.FoundLemmas.{adds_tell, swaps_tell}
use Rattle.lxr_mutator.proofs.laws.swaps_and_adds_tell_what_they_find.Goals as goal

pub returns-clause-swaps : goal.returns-clause-swaps
returns-clause-swaps c = swaps_tell

pub returns-clause-adds : goal.returns-clause-adds
returns-clause-adds c = adds_tell
