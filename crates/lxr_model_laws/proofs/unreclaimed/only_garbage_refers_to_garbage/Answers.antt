use Rattle.lxr_model_laws.proofs.ClosedLemmas.{only_garbage_refers}
use Rattle.lxr_model_laws.proofs.unreclaimed.only_garbage_refers_to_garbage.Goals as goal

pub returns : goal.returns
returns c = only_garbage_refers
