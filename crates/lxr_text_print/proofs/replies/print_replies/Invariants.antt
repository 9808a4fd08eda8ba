use Rattle.std.proofs.Common.{◌≤◌, ◌++◌, take}
use Rattle.std.specs.Prelude.{flat_map}
use Rattle.std.specs.List.{zip}
use Rattle.lxr_text_print.specs.Pages.{Moves}
use Rattle.lxr_text_print.specs.Replies.{call_text, heading_text}
use Rattle.lxr_text_print.proofs.replies.print_replies.Given as goal

abbrev pub invariant-loop-i : goal.invariant-loop-i
invariant-loop-i g l =
    record {
      moved : Moves (g.O.Sink.written l.fn.output) (g.O.Sink.written l.output)
          (heading_text l.fn.thread ++ flat_map (λ c. call_text c.0 c.1) (take l.i (zip l.operations.items l.replies.items))) l.page;
      faults : g.O.Sink.faults l.fn.output ≤ g.O.Sink.faults l.output;
    }
