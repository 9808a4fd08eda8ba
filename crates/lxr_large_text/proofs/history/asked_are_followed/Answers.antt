use Rattle.lxr_large_text.proofs.CauseLemmas.{asked_are_followed}
use Rattle.lxr_large_text.proofs.history.asked_are_followed.Goals as goal

pub returns : goal.returns
returns c = asked_are_followed
