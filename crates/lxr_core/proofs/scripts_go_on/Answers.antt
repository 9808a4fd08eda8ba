use Rattle.lxr_core.proofs.ScriptLemmas.{scripts_go_on}
use Rattle.lxr_core.proofs.scripts_go_on.Goals as goal

-- the law
pub returns : goal.returns
returns c = scripts_go_on
