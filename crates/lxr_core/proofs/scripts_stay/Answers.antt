use Rattle.lxr_core.proofs.ScriptLemmas.{scripts_stay}
use Rattle.lxr_core.proofs.scripts_stay.Goals as goal

-- the law
pub returns : goal.returns
returns c = scripts_stay
