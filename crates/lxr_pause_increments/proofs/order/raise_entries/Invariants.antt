use Rattle.std.proofs.Common.{ℕ, List}
use Rattle.lxr_layout.specs.declared.Name.{Name}
use Rattle.lxr_model.specs.Moments.{Field, Moment}
use Rattle.lxr_pause_promote.specs.Shortages.{IsShortage}
use Rattle.lxr_pause_increments.specs.Accounted.{HasRaisedEntries, IsLogOrder, IsSettled, none_raised}
use Rattle.lxr_pause_increments.specs.Increments.{RaisingLeaves, IncrementStage}
use Rattle.lxr_pause_increments.specs.Steps.{AtLater}
use Rattle.lxr_pause_increments.proofs.order.raise_entries.Given as goal

abbrev pub invariant-loop-index : goal.invariant-loop-index
invariant-loop-index l = record {
  settles : (m : Moment) (at : Name → ℕ) (st : IncrementStage) (fields : List Field) → IsLogOrder m at fields l.fn.space.logged.items → IsSettled l.fn.space m at st none_raised
      → AtLater st (λ later. HasRaisedEntries l.space m at later fields l.index);
  leaves : RaisingLeaves l.fn.space l.space;
  short : IsShortage l.space l.shortage;
}
