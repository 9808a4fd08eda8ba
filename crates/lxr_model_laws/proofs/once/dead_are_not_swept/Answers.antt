use Rattle.lxr_model_laws.proofs.OnceLemmas.{dead_not_swept}
use Rattle.lxr_model_laws.proofs.once.dead_are_not_swept.Goals as goal

pub returns : goal.returns
returns c = dead_not_swept
