use Rattle.lxr_mutator.proofs.NamelessLemmas.{orders_without_names, so_without_names, steps_without_names}
use Rattle.lxr_mutator.proofs.laws.mutators_may_tell_no_names.Goals as goal

pub returns-clause-steps : goal.returns-clause-steps
returns-clause-steps c = steps_without_names

pub returns-clause-orders : goal.returns-clause-orders
returns-clause-orders c = orders_without_names

pub returns-clause-sound : goal.returns-clause-sound
returns-clause-sound c = so_without_names
