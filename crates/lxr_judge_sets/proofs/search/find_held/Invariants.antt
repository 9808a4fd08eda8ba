use Rattle.std.proofs.Common.{take}
use Rattle.lxr_judge_sets.specs.Leading.{Finds}
use Rattle.lxr_judge_sets.proofs.search.find_held.Given as goal

abbrev pub invariant-loop-reference : goal.invariant-loop-reference
invariant-loop-reference g l = Finds (g.C.Candidates.may l.candidates) l.fn.found (take l.reference-index l.references) l.found
