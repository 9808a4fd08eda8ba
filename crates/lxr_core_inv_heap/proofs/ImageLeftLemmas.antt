-- Objects are left by helpers, who write no heap word.
use Rattle.std.proofs.Common.{◌≡◌, ap}
use Rattle.lxr_image.specs.Tables.{Tables}
use Rattle.lxr_model.specs.Moments.{Moment}
use Rattle.lxr_invariant.specs.AbstractState.{members}
use Rattle.lxr_invariant.proofs.FrameLemmas.{image_still}
use Rattle.lxr_core_invariant.specs.EpochStates.{limits_of, moment_of}
use Rattle.lxr_core_invariant.specs.Laws.{PlacedIsLeft}
use Rattle.lxr_core_inv_heap.proofs.ImageKnowLemmas.{all_kept, knows_on}
use Rattle.lxr_core_inv_heap.proofs.ImageStayLemmas.{same_wiped}

-- objects stay placed, and what mutators have learned of them stays so
pub placed_is_left : PlacedIsLeft
placed_is_left b s u ds ts is leaves =
    let t : Tables = s.tables in
    let m : Moment = moment_of b s in
    let placed = is.image.placed in
    let heap : u.heap ≡ t.heap = ap (λ (z : Tables). z.heap) leaves.rest in
    record {
      image = image_still t u (limits_of b).blocks s.at m.state.graph (members m) (members m) heap (λ n h. h) placed.image;
      world = placed.world;
      unmoved = placed.unmoved;
      knows = λ i v shown. knows_on t u m m s.at s.at v v.stage (all_kept m s.at) (same_wiped t u v heap) (placed.knows i v shown);
    }
