use Rattle.lxr_core_inv_trace.proofs.ScansKeepingLemmas.{tracers_are_sound}
use Rattle.lxr_core_inv_trace.proofs.scans.tracers_are_sound.Goals as goal

pub returns : goal.returns
returns c = tracers_are_sound
