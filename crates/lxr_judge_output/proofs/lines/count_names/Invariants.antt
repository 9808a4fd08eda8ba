use Rattle.std.proofs.Common.{length}
use Rattle.lxr_judge_output.proofs.FieldLemmas.{NamesOn}
use Rattle.lxr_judge_output.proofs.lines.count_names.Given as goal

abbrev pub invariant-loop-end : goal.invariant-loop-end
invariant-loop-end l = NamesOn l.line l.left l.count

abbrev pub decreases-loop-end : goal.decreases-loop-end
decreases-loop-end l = length l.left
