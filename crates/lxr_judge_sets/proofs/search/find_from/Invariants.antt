use Rattle.std.proofs.Common.{take}
use Rattle.lxr_judge_sets.specs.Leading.{FindsFrom}
use Rattle.lxr_judge_sets.proofs.search.find_from.Given as goal

abbrev pub invariant-loop-name : goal.invariant-loop-name
invariant-loop-name g l = FindsFrom l.graph.graph (g.C.Candidates.may l.candidates) l.fn.found (take l.name-index l.names) l.found
