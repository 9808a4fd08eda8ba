use Rattle.lxr_model_laws.proofs.ReportLemmas.{running_young}
use Rattle.lxr_model_laws.proofs.reports.running_traces_are_young.Goals as goal

pub returns : goal.returns
returns c = running_young
