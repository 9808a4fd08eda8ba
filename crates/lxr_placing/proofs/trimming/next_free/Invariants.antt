use Rattle.std.proofs.Common.{◌-◌, ◌≤◌}
use Rattle.lxr_image.specs.Spaces.{tables_of}
use Rattle.lxr_placing.specs.Trimming.{NoneIsFree}
use Rattle.lxr_placing.proofs.trimming.next_free.Given as goal

abbrev pub invariant-loop-block : goal.invariant-loop-block
invariant-loop-block l = record { past : l.from ≤ l.block; passed : NoneIsFree (tables_of l.space) l.from l.block }

abbrev pub decreases-loop-block : goal.decreases-loop-block
decreases-loop-block l = l.space.limits.blocks - l.block
