use Rattle.lxr_core.proofs.LineLemmas.{epoch_keeps_lines}
use Rattle.lxr_core.proofs.epoch_keeps_lines.Goals as goal

-- the law
pub returns : goal.returns
returns c = epoch_keeps_lines
