use Rattle.std.proofs.Common.{◌≤◌, ◌++◌, take}
use Rattle.std.specs.Prelude.{flat_map}
use Rattle.std.specs.List.{zip}
use Rattle.lxr_text_print.specs.Pages.{Moves}
use Rattle.lxr_text_print.specs.Replies.{heading_text}
use Rattle.lxr_large_text.specs.Replies.{one_text}
use Rattle.lxr_large_text.proofs.printing.print_large.Given as goal

abbrev pub invariant-loop-i : goal.invariant-loop-i
invariant-loop-i g l =
    record {
      moved : Moves (g.O.Sink.written l.fn.output) (g.O.Sink.written l.output)
          (heading_text 1 ++ flat_map (λ c. one_text c.0 c.1) (take l.i (zip l.operations l.replies))) l.page;
      faults : g.O.Sink.faults l.fn.output ≤ g.O.Sink.faults l.output;
    }
