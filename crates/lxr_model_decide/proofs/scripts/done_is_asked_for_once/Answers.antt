use Rattle.lxr_model_decide.proofs.ScriptLemmas.{done_is_asked_for_once}
use Rattle.lxr_model_decide.proofs.scripts.done_is_asked_for_once.Goals as goal

pub returns : goal.returns
returns c = done_is_asked_for_once
