use Rattle.lxr_model_laws.proofs.ScriptLemmas.{scripts_may_grow}
use Rattle.lxr_model_laws.proofs.scripts.scripts_may_grow.Goals as goal

pub returns : goal.returns
returns c = scripts_may_grow
