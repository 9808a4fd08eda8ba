use Rattle.std.proofs.Common.{◌≡◌, ℕ, ◌+◌, ◌-◌, [], get_or, length}
use Rattle.lxr_judge_sets.proofs.by_name.Row.reach.Given as goal

abbrev pub invariant-loop-self : goal.invariant-loop-self
invariant-loop-self g l = (k : ℕ) → get_or l.self-inside.pages.items k [] ≡ get_or l.fn.self k []

abbrev pub decreases-loop-self : goal.decreases-loop-self
decreases-loop-self g l = l.page + 1 - length l.self-inside.pages.items
