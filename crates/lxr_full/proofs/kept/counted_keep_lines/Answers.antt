use Rattle.lxr_full.proofs.KeptLemmas.{counted_keep_lines}
use Rattle.lxr_full.proofs.kept.counted_keep_lines.Goals as goal

pub returns : goal.returns
returns c = counted_keep_lines
