use Rattle.lxr_large_text.proofs.CauseLemmas.{unasked_owe_nothing}
use Rattle.lxr_large_text.proofs.history.unasked_owe_nothing.Goals as goal

pub returns : goal.returns
returns c = unasked_owe_nothing
