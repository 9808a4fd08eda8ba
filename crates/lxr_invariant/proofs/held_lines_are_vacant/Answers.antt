use Rattle.lxr_invariant.proofs.VacantLemmas.{held}
use Rattle.lxr_invariant.proofs.held_lines_are_vacant.Goals as goal

pub returns : goal.returns
returns c = held
