use Rattle.std.proofs.Common.{ℕ, ◌-◌, ◌*◌, ◌≤◌, List}
use Rattle.lxr_layout.specs.declared.TheConstants.{GRANULES_IN_BLOCK}
use Rattle.lxr_layout.specs.declared.Name.{Name}
use Rattle.lxr_model.specs.Moments.{Moment}
use Rattle.lxr_sweep_unmarked.specs.Clearing.{IsClearing, clearing}
use Rattle.lxr_sweep_unmarked.specs.Sweeping.{CanSweep}
use Rattle.lxr_sweep_unmarked.proofs.clearing.clear_all_unmarked.Given as goal

abbrev pub invariant-loop-granule : goal.invariant-loop-granule
invariant-loop-granule l =
    record {
      stage : (m : Moment) (at : Name → ℕ) → CanSweep l.fn.space m at → (swept : List Name) × IsClearing l.space (clearing l.fn.space m at swept l.from);
      within : l.from ≤ GRANULES_IN_BLOCK * l.fn.space.limits.blocks;
    }

abbrev pub decreases-loop-granule : goal.decreases-loop-granule
decreases-loop-granule l = GRANULES_IN_BLOCK * l.fn.space.limits.blocks - l.from
