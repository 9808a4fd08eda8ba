use Rattle.lxr_large_text.proofs.CauseLemmas.{pauses_are_made_for}
use Rattle.lxr_large_text.proofs.history.pauses_are_made_for.Goals as goal

pub returns : goal.returns
returns c = pauses_are_made_for
