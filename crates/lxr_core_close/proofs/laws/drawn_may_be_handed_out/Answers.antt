use Rattle.lxr_core_close.proofs.SafepointLemmas.{drawn_may_be_handed_out}
use Rattle.lxr_core_close.proofs.laws.drawn_may_be_handed_out.Goals as goal

pub returns : goal.returns
returns c = drawn_may_be_handed_out
