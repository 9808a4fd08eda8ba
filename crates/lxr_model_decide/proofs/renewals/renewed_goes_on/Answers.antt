use Rattle.lxr_model_decide.proofs.RenewalLemmas.{renewed_goes_on}
use Rattle.lxr_model_decide.proofs.renewals.renewed_goes_on.Goals as goal

pub returns : goal.returns
returns c = renewed_goes_on
