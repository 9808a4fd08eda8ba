use Rattle.lxr_model_decide.proofs.RenewalLemmas.{renewals_are_refused}
use Rattle.lxr_model_decide.proofs.renewals.renewals_are_refused.Goals as goal

pub returns : goal.returns
returns c = renewals_are_refused
