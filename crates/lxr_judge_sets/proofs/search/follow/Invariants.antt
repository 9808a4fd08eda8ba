use Rattle.std.proofs.Common.{◌-◌, ◌^◌}
use Rattle.lxr_judge_sets.proofs.LeadingLemmas.{IsFollowing}
use Rattle.lxr_judge_sets.proofs.search.follow.Given as goal

abbrev pub invariant-loop-name : goal.invariant-loop-name
invariant-loop-name g l = IsFollowing l.graph.graph (g.C.Candidates.may l.candidates) l.fn.found l.found l.next

-- no list is as long as that
abbrev pub decreases-loop-name : goal.decreases-loop-name
decreases-loop-name g l = 2 ^ 64 - l.next
