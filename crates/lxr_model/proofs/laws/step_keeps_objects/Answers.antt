use Rattle.lxr_model.proofs.ObjectLemmas.{keeps_objects}
use Rattle.lxr_model.proofs.laws.step_keeps_objects.Goals as goal

pub returns : goal.returns
returns c = keeps_objects
