use Rattle.lxr_text_script.proofs.Canonical.{read_again}
use Rattle.lxr_text_script.proofs.laws.spelling_is_read_again.Goals as goal

pub returns : goal.returns
returns c = read_again
