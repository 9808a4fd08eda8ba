use Rattle.lxr_text_script.proofs.Accepted.{text_read}
use Rattle.lxr_text_script.proofs.laws.accepted_is_spelled.Goals as goal

pub returns : goal.returns
returns c = λ text threads e. rw e at (text_read text)
