use Rattle.lxr_model_laws.proofs.ReportLemmas.{moments_in_order}
use Rattle.lxr_model_laws.proofs.reports.moments_are_in_order.Goals as goal

pub returns : goal.returns
returns c = moments_in_order
