use Rattle.lxr_model_decide.proofs.ScriptLemmas.{script_grows}
use Rattle.lxr_model_decide.proofs.scripts.script_grows.Goals as goal

pub returns : goal.returns
returns c = script_grows
