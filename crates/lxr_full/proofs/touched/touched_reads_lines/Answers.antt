use Rattle.lxr_full.proofs.TouchedLemmas.{touched_reads_lines}
use Rattle.lxr_full.proofs.touched.touched_reads_lines.Goals as goal

pub returns : goal.returns
returns c = touched_reads_lines
