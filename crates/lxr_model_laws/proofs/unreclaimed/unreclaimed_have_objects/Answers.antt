use Rattle.lxr_model_laws.proofs.ClosedLemmas.{have_objects}
use Rattle.lxr_model_laws.proofs.unreclaimed.unreclaimed_have_objects.Goals as goal

pub returns : goal.returns
returns c = have_objects
