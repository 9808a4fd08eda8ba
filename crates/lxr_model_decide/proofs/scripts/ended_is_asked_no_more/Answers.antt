use Rattle.lxr_model_decide.proofs.ScriptLemmas.{ended_is_asked_no_more}
use Rattle.lxr_model_decide.proofs.scripts.ended_is_asked_no_more.Goals as goal

pub returns : goal.returns
returns c = ended_is_asked_no_more
