use Rattle.std.proofs.Common.{◌-◌, ◌*◌, ◌≤◌, ◌++◌}
use Rattle.lxr_layout.specs.declared.TheConstants.{GRANULES_IN_BLOCK}
use Rattle.lxr_image.specs.Spaces.{tables_of}
use Rattle.lxr_text_print.specs.Pages.{Moves}
use Rattle.lxr_text_map.specs.Map.{objects_text}
use Rattle.lxr_text_map.proofs.objects.put_objects.Given as goal

abbrev pub invariant-loop-granule : goal.invariant-loop-granule
invariant-loop-granule g l =
    record {
      within : l.from ≤ GRANULES_IN_BLOCK * l.space.limits.blocks;
      moved : Moves (g.O.Sink.written l.fn.output) (g.O.Sink.written l.output) (l.fn.page ++ objects_text (tables_of l.space) l.from) l.page;
      faults : g.O.Sink.faults l.fn.output ≤ g.O.Sink.faults l.output;
    }

abbrev pub decreases-loop-granule : goal.decreases-loop-granule
decreases-loop-granule g l = GRANULES_IN_BLOCK * l.space.limits.blocks - l.from
