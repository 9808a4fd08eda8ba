use Rattle.std.proofs.Common.{◌≡◌, ◌≤◌, [], List, drop, length}
use Rattle.lxr_large_model.specs.History.{LargeItem}
use Rattle.lxr_large_text.specs.Histories.{with_end}
use Rattle.lxr_large_run.specs.Playing.{IsPlaying, LargeTask}
use Rattle.lxr_large_run.proofs.playing.play_all.Given as goal

abbrev pub invariant-loop-i : goal.invariant-loop-i
invariant-loop-i g l =
    record {
      playing : (task : LargeTask) → task.counts ≡ l.fn.counts → task.operations ≡ l.operations → IsPlaying task (with_end l.operations) l.fn.heap (g.O.Sink.written l.fn.output) [] []
          → (k : List LargeItem) × IsPlaying task (with_end (drop l.i l.operations)) l.heap (g.O.Sink.written l.output) l.replies.items k;
      room : l.replies.room ≡ l.fn.replies.room;
      kept : length l.replies.items ≡ l.i;
      faults : g.O.Sink.faults l.fn.output ≤ g.O.Sink.faults l.output;
    }
