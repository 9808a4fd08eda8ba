use Rattle.lxr_pause_trace_laws.proofs.TellingLemmas.{marks_tell}
use Rattle.lxr_pause_trace_laws.proofs.marks_tell_the_end.Goals as goal

pub returns : goal.returns
returns c = marks_tell
