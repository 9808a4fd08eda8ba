use Rattle.lxr_pause_increments.proofs.TracedLemmas.{GrayedSoFar}
use Rattle.lxr_pause_increments.proofs.tracing.gray_entries.Given as goal

abbrev pub invariant-loop-index : goal.invariant-loop-index
invariant-loop-index l = GrayedSoFar l.initial.space l.space l.index
