use Rattle.std.proofs.Common.{ℕ, ◌≤◌, List}
use Rattle.lxr_graph.specs.History.{Item}
use Rattle.lxr_judge.specs.Passing.{AllPass}
use Rattle.lxr_judge.specs.Progress.{Tells}
use Rattle.lxr_judge.specs.Standing.{TakesAllOf}
use Rattle.lxr_judge.proofs.judging.Judging.took_all.Given as goal

abbrev pub invariant-loop-before : goal.invariant-loop-before
invariant-loop-before l = (h : List Item) → Tells l.sources.terms l.self.progress h → AllPass l.sources h → (t : ℕ) → 1 ≤ t → t ≤ l.before → TakesAllOf l.sources h t
