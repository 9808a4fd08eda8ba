use Rattle.lxr_core_close.proofs.SafepointLemmas.{drawn_was_free}
use Rattle.lxr_core_close.proofs.laws.drawn_was_free.Goals as goal

pub returns : goal.returns
returns c = drawn_was_free
