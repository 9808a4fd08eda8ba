use Rattle.lxr_core_sim_helpers.proofs.DecrementerStepLemmas.{each_step}
use Rattle.lxr_core_sim_helpers.proofs.decrementer_steps_are_events.Goals as goal

pub returns : goal.returns
returns c = each_step
