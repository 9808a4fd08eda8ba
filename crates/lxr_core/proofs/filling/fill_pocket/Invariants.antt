use Rattle.std.proofs.Common.{◌≡◌, ◌-◌, ◌*◌, ◌≤◌, length}
use Rattle.lxr_layout.specs.declared.TheConstants.{GRANULES_IN_BLOCK}
use Rattle.lxr_image.specs.Spaces.{tables_of}
use Rattle.lxr_core.specs.Filling.{holding_places, places_between}
use Rattle.lxr_core.proofs.filling.fill_pocket.Given as goal

abbrev pub invariant-loop-granule : goal.invariant-loop-granule
invariant-loop-granule l =
    record {
      reached : l.from ≤ l.next;
      within : l.next ≤ GRANULES_IN_BLOCK * l.space.limits.blocks;
      places : l.tracer ≡ holding_places l.fn.tracer (places_between (tables_of l.space) l.from l.next);
      few : length (places_between (tables_of l.space) l.from l.next) ≤ 64;
    }

abbrev pub decreases-loop-granule : goal.decreases-loop-granule
decreases-loop-granule l = GRANULES_IN_BLOCK * l.space.limits.blocks - l.next
