use Rattle.std.proofs.Common.{◌≤◌, ◌++◌}
use Rattle.lxr_image.specs.Spaces.{tables_of}
use Rattle.lxr_text_print.specs.Pages.{Moves}
use Rattle.lxr_text_map.specs.Map.{blocks_text}
use Rattle.lxr_text_map.proofs.blocks.put_blocks.Given as goal

abbrev pub invariant-loop-block : goal.invariant-loop-block
invariant-loop-block g l =
    record {
      moved : Moves (g.O.Sink.written l.fn.output) (g.O.Sink.written l.output) (l.fn.page ++ blocks_text (tables_of l.space) l.block) l.page;
      faults : g.O.Sink.faults l.fn.output ≤ g.O.Sink.faults l.output;
    }
