use Rattle.std.proofs.Common.{◌-◌, ◌≤◌, length, take}
use Rattle.lxr_text_stream.specs.Streams.{Appends}
use Rattle.lxr_text_stream.proofs.transfer.put_all.Given as goal

abbrev pub invariant-loop-at : goal.invariant-loop-at
invariant-loop-at g l =
    record {
      within : l.at ≤ length l.bytes;
      appended : Appends (g.O.Sink.written l.fn.output) (g.O.Sink.written l.output) (take l.at l.bytes);
      faults : g.O.Sink.faults l.fn.output ≤ g.O.Sink.faults l.output;
    }

abbrev pub decreases-loop-at : goal.decreases-loop-at
decreases-loop-at g l = length l.bytes - l.at
