use Rattle.lxr_blocks.proofs.SweptLemmas.{swept_is_by_lines}
use Rattle.lxr_blocks.proofs.sweeping.swept_is_by_lines.Goals as goal

pub returns : goal.returns
returns c = swept_is_by_lines
