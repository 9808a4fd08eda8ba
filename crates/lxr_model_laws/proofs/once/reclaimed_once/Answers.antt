use Rattle.lxr_model_laws.proofs.OnceLemmas.{reclaimed_once}
use Rattle.lxr_model_laws.proofs.once.reclaimed_once.Goals as goal

pub returns : goal.returns
returns c = reclaimed_once
