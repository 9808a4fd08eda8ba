-- What holds of a space at a safepoint before a pause doesn't read its tally.
use Rattle.lxr_image.specs.declared.space.Space.{Space}
use Rattle.lxr_image.specs.declared.space.Tally.{Tally}
use Rattle.lxr_invariant.specs.AbstractState.{AbstractState}
use Rattle.lxr_invariant.specs.Quiescent.{IsAtSafepoint}
use Rattle.lxr_invariant.proofs.ToldLemmas.{holds_told}

-- a safepoint stays one whatever the tally
pub safepoint_tallied : (s : Space) (g : AbstractState) (tally : Tally) → IsAtSafepoint s g → IsAtSafepoint (record s { tally = tally }) g
safepoint_tallied s g tally safepoint = record {
  holds = holds_told s g.moment g.at s.report tally s.pauses safepoint.holds.room.report safepoint.holds;
  numbers = record { pauses = safepoint.numbers.pauses; trace = safepoint.numbers.trace; report = safepoint.numbers.report };
  traced = safepoint.traced;
}
