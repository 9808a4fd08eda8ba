use Rattle.lxr_graph.proofs.RowCounts.{step_rows}
use Rattle.lxr_graph.proofs.laws.step_keeps_rows.Goals as goal

pub returns : goal.returns
returns c = step_rows
