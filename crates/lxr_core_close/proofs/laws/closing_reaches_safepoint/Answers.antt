use Rattle.lxr_core_close.proofs.SafepointLemmas.{closing_reaches_safepoint}
use Rattle.lxr_core_close.proofs.laws.closing_reaches_safepoint.Goals as goal

pub returns : goal.returns
returns c = closing_reaches_safepoint
