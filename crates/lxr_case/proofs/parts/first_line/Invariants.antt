use Rattle.std.proofs.Common.{ℕ, ◌<◌}
use Rattle.lxr_case.specs.Parts.{IsLineAt}
use Rattle.lxr_case.proofs.parts.first_line.Given as goal

abbrev pub invariant-loop-at : goal.invariant-loop-at
invariant-loop-at l = (i : ℕ) → i < l.at → ¬ IsLineAt l.line l.text i
