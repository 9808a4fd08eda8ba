use Rattle.lxr_model_counting.proofs.PauseLemmas.{sweeps_without_trace_are_sound}
use Rattle.lxr_model_counting.proofs.draining.sweeps_without_trace_are_sound.Goals as goal

pub returns : goal.returns
returns c = sweeps_without_trace_are_sound
