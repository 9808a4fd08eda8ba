use Rattle.std.proofs.Common.{ℕ}
use Rattle.lxr_pause_queue.proofs.EntryLemmas.{AreToldTo}
use Rattle.lxr_pause_queue.proofs.counting.add_word.Given as goal

abbrev pub invariant-loop-bit : goal.invariant-loop-bit
invariant-loop-bit l = (from : ℕ) × AreToldTo l.fn.space l.space l.at l.initial.starts l.starts from

abbrev pub decreases-loop-bit : goal.decreases-loop-bit
decreases-loop-bit l = l.starts
