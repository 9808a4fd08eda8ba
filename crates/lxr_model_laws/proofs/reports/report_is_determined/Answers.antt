use Rattle.lxr_model_laws.proofs.ReportLemmas.{report_determined}
use Rattle.lxr_model_laws.proofs.reports.report_is_determined.Goals as goal

pub returns : goal.returns
returns c = report_determined
