use Rattle.lxr_model_laws.proofs.ReportLemmas.{ends_in_time}
use Rattle.lxr_model_laws.proofs.reports.traces_end_in_time.Goals as goal

pub returns : goal.returns
returns c = ends_in_time
