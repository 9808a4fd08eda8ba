use Rattle.lxr_invariant.proofs.VacantLemmas.{raised}
use Rattle.lxr_invariant.proofs.raised_lines_are_vacant.Goals as goal

pub returns : goal.returns
returns c = raised
