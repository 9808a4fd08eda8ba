use Rattle.lxr_core_inv_memory.proofs.FixedLemmas.{fixed_tables_are_left}
use Rattle.lxr_core_inv_memory.proofs.fixed_tables_are_left.Goals as goal

pub returns : goal.returns
returns c = fixed_tables_are_left
