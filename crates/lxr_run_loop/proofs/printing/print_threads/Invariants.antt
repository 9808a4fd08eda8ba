use Rattle.std.proofs.Common.{◌≤◌, take}
use Rattle.lxr_text_stream.specs.Streams.{Appends}
use Rattle.lxr_run_loop.proofs.PrintLemmas.{text_in}
use Rattle.lxr_run_loop.proofs.printing.print_threads.Given as goal

abbrev pub invariant-loop-number : goal.invariant-loop-number
invariant-loop-number g l =
    record {
      text : Appends (g.O.Sink.written l.fn.output) (g.O.Sink.written l.output) (text_in (take l.number l.actors));
      faults : g.O.Sink.faults l.fn.output ≤ g.O.Sink.faults l.output;
    }
