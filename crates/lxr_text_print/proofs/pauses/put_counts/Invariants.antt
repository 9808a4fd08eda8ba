use Rattle.std.proofs.Common.{◌≤◌, ◌++◌, take}
use Rattle.std.specs.Prelude.{flat_map}
use Rattle.lxr_text_print.specs.Pages.{Moves}
use Rattle.lxr_text_print.specs.Reports.{count_text}
use Rattle.lxr_text_print.proofs.pauses.put_counts.Given as goal

abbrev pub invariant-loop-count : goal.invariant-loop-count
invariant-loop-count g l =
    record {
      moved : Moves (g.O.Sink.written l.fn.output) (g.O.Sink.written l.output)
          (l.fn.page ++ flat_map count_text (take l.count-index l.counts.items)) l.page;
      faults : g.O.Sink.faults l.fn.output ≤ g.O.Sink.faults l.output;
    }
