use Rattle.std.proofs.Common.{◌+◌, ◌-◌, ◌≤◌, length, take}
use Rattle.lxr_text_stream.specs.Streams.{Takes}
use Rattle.lxr_text_stream.proofs.transfer.read_all.Given as goal

abbrev pub invariant-loop-filled : goal.invariant-loop-filled
invariant-loop-filled g l =
    record {
      within : l.filled ≤ length l.room.items;
      limited : length l.room.items ≤ l.limit + 1;
      taken : Takes (g.I.Source.left l.fn.input) (g.I.Source.left l.input) (take l.filled l.room.items);
      faults : g.I.Source.faults l.fn.input ≤ g.I.Source.faults l.input;
    }

abbrev pub decreases-loop-filled : goal.decreases-loop-filled
decreases-loop-filled g l = l.limit + 1 - l.filled
