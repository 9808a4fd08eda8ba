use Rattle.lxr_blocks.proofs.KeptLemmas.{kept_line_is_taken}
use Rattle.lxr_blocks.proofs.laws.kept_line_is_taken.Goals as goal

pub returns : goal.returns
returns c = kept_line_is_taken
