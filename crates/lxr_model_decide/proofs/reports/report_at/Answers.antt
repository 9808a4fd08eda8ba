use Rattle.lxr_model_decide.proofs.PartLemmas.{reports_right}
use Rattle.lxr_model_decide.proofs.reports.report_at.Goals as goal

pub returns : goal.returns
returns c = reports_right
