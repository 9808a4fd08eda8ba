use Rattle.lxr_text_script.proofs.Spelled.{text_taken}
use Rattle.lxr_text_script.proofs.laws.spelled_is_accepted.Goals as goal

pub returns : goal.returns
returns c = text_taken
