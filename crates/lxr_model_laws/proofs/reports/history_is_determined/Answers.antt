use Rattle.lxr_model_laws.proofs.ReportLemmas.{history_determined}
use Rattle.lxr_model_laws.proofs.reports.history_is_determined.Goals as goal

pub returns : goal.returns
returns c = history_determined
