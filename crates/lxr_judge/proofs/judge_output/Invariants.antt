use Rattle.lxr_judge.proofs.TryLemmas.{PassedTo}
use Rattle.lxr_judge.proofs.judge_output.Given as goal

abbrev pub invariant-loop-at : goal.invariant-loop-at
invariant-loop-at l = PassedTo l.sources l.judging l.at
