-- How counts are raised and lowered: one at a time, and a stuck count stays.
use Rattle.std.specs.Prelude.{ℕ, ◌+◌, ◌-◌, ◌==◌, min, if◌then◌else◌}
use Rattle.lxr_layout.specs.declared.TheConstants.{STUCK}
use Rattle.lxr_tables.specs.declared.counts.Lowered.{Lowered}
use Rattle.lxr_tables.specs.declared.counts.Lowered.TheVariants.{Stuck, Zero, Now}

-- a raised count: one more, and at most STUCK
abbrev pub raised_count : ℕ → ℕ
raised_count n = min (n + 1) STUCK

-- a lowered count: one less, but for a stuck one
abbrev pub lowered_count : ℕ → ℕ
lowered_count n = if n == STUCK then STUCK else (n - 1)

-- what is answered where a count is lowered
abbrev pub lowered_of : ℕ → Lowered
lowered_of n = if n == STUCK then Stuck else (if n == 1 then Zero else Now (n - 1))
