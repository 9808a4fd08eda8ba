use Rattle.lxr_sights.proofs.CopyLemmas.{roomy_spaces_fit}
use Rattle.lxr_sights.proofs.laws.roomy_spaces_fit.Goals as goal

pub returns : goal.returns
returns c = roomy_spaces_fit
