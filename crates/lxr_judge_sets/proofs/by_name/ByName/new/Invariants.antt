use Rattle.std.proofs.Common.{◌≡◌, [], replicate}
use Rattle.lxr_judge_sets.proofs.by_name.ByName.new.Given as goal

abbrev pub invariant-loop : goal.invariant-loop
invariant-loop g l = l.rows.items ≡ replicate l.counter []
