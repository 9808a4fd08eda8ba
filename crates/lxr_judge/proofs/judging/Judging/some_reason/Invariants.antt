use Rattle.std.proofs.Common.{ℕ, ◌≤◌, List}
use Rattle.lxr_graph.specs.History.{Item}
use Rattle.lxr_judge.specs.Passing.{IsReason}
use Rattle.lxr_judge.specs.Standing.{Keeps}
use Rattle.lxr_judge.proofs.judging.Judging.some_reason.Given as goal

abbrev pub invariant-loop-before : goal.invariant-loop-before
invariant-loop-before l = (h : List Item) → Keeps l.sources l.self h → (t : ℕ) → t ≤ l.before → ¬ IsReason l.sources h t
