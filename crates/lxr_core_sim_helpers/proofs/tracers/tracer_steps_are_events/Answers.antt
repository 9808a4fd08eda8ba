use Rattle.lxr_core_sim_helpers.proofs.TracerStepLemmas.{each_step}
use Rattle.lxr_core_sim_helpers.proofs.tracers.tracer_steps_are_events.Goals as goal

pub returns : goal.returns
returns c = each_step
