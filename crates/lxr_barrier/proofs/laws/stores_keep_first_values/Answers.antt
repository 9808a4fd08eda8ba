use Rattle.lxr_barrier.proofs.ScheduleLemmas.{schedule_keeps}
use Rattle.lxr_barrier.proofs.laws.stores_keep_first_values.Goals as goal

pub returns : goal.returns
returns c r opening core schedule are kept = (schedule_keeps r opening core schedule (record { has = are.0; stores = are.1; kept = kept })).kept
