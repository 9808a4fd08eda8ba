use Rattle.lxr_core_inv_memory.proofs.FixedLemmas.{fixed_tables_are_kept}
use Rattle.lxr_core_inv_memory.proofs.fixed_tables_are_kept.Goals as goal

pub returns : goal.returns
returns c = fixed_tables_are_kept
