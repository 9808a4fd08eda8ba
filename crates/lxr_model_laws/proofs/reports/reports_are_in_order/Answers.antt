use Rattle.lxr_model_laws.proofs.ReportLemmas.{reports_in_order}
use Rattle.lxr_model_laws.proofs.reports.reports_are_in_order.Goals as goal

pub returns : goal.returns
returns c = reports_in_order
