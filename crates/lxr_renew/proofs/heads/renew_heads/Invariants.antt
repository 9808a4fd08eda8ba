use Rattle.std.proofs.Common.{◌-◌, ◌*◌, ◌≤◌, List}
use Rattle.lxr_layout.specs.declared.TheConstants.{GRANULES_IN_BLOCK}
use Rattle.lxr_layout.specs.declared.Name.{Name}
use Rattle.lxr_invariant.specs.AbstractState.{AbstractState}
use Rattle.lxr_renew.specs.Heads.{RenewsHeads}
use Rattle.lxr_renew.specs.Renewing.{MayRenew}
use Rattle.lxr_renew.proofs.heads.renew_heads.Given as goal

abbrev pub invariant-loop-granule : goal.invariant-loop-granule
invariant-loop-granule l =
    record {
      heads : (g : AbstractState) (ns : List Name) → MayRenew l.fn.space g ns → RenewsHeads l.fn.space l.space g ns l.from;
      within : l.from ≤ GRANULES_IN_BLOCK * l.fn.space.limits.blocks;
    }

abbrev pub decreases-loop-granule : goal.decreases-loop-granule
decreases-loop-granule l = GRANULES_IN_BLOCK * l.fn.space.limits.blocks - l.from
