use Rattle.lxr_model_laws.proofs.OnceLemmas.{promoted_once}
use Rattle.lxr_model_laws.proofs.once.promoted_once.Goals as goal

pub returns : goal.returns
returns c = promoted_once
