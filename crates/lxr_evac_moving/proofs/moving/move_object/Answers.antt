use Rattle.std.proofs.Common.{◌+◌, arith, refl, subst, sym}
use Rattle.lxr_graph.specs.State.{shape_of}
use Rattle.lxr_evac_moving.specs.Stages.{IsMovingAway}
use Rattle.lxr_evac_moving.proofs.CarriedLemmas.{copied_count, copied_fewer, copied_stands, moved_stage, moved_then, one_kept, one_moved, taken_fewer}
use Rattle.lxr_evac_moving.proofs.LookedLemmas.{looked_to}
use Rattle.lxr_evac_moving.proofs.StepLemmas.{kept_then, next_kept, next_object}
use Rattle.lxr_pause_promote.proofs.FewerLemmas.{still_short}
use Rattle.lxr_evac_moving.proofs.moving.move_object.Goals as goal

pub young_evacuate_within-requires-clause-kept : goal.young_evacuate_within-requires-clause-kept
young_evacuate_within-requires-clause-kept c =
    let x = c.requires.may in
    let o = next_object c.args.space.now x.0 x.1 x.2 c.args.granule x.3 in
    rw c.place_at-place.ensures (o.name, shape_of o.object, next_kept c.args.space.now x.0 x.1 x.2 c.args.granule x.3)

pub take_over-requires-clause-stands : goal.take_over-requires-clause-stands
take_over-requires-clause-stands c =
    let x = c.requires.may in
    let o = next_object c.args.space.now x.0 x.1 x.2 c.args.granule x.3 in
    let kept = next_kept c.args.space.now x.0 x.1 x.2 c.args.granule x.3 in
    let copied = (rw c.place_at-place.ensures at c.in-Some.ensures.copied) o.name (shape_of o.object) kept in
    (o.name, shape_of o.object, copied_stands c.args.space.now x.0 x.1 x.2 c.args.granule x.3 c.young_evacuate_within.new.space c.in-Some.copy copied)

pub take_over-requires-clause-heap : goal.take_over-requires-clause-heap
take_over-requires-clause-heap c =
    let x = c.requires.may in
    let o = next_object c.args.space.now x.0 x.1 x.2 c.args.granule x.3 in
    let kept = next_kept c.args.space.now x.0 x.1 x.2 c.args.granule x.3 in
    let copied = (rw c.place_at-place.ensures at c.in-Some.ensures.copied) o.name (shape_of o.object) kept in
    let blocks = (copied_fewer c.args.space.now x.0 x.1 x.2 c.args.granule x.3 c.young_evacuate_within.new.space c.in-Some.copy copied).blocks in
    let within = x.3.within in
    rw c.place_at-place.ensures (omega (arith, within, blocks))

pub returns-in-Some-clause-moves : goal.returns-in-Some-clause-moves
returns-in-Some-clause-moves c = λ m st is next.
    let o = next_object c.args.space.now m st is c.args.granule next in
    let kept = next_kept c.args.space.now m st is c.args.granule next in
    let copied = (rw c.place_at-place.ensures at c.in-Some.ensures.copied) o.name (shape_of o.object) kept in
    let stands = copied_stands c.args.space.now m st is c.args.granule next c.young_evacuate_within.new.space c.in-Some.copy copied in
    let turns = (rw c.place_at-place.ensures at c.take_over.ensures) o.name (shape_of o.object) stands in (
      moved_stage c.args.space.now m st is c.args.granule next c.young_evacuate_within.new.space c.in-Some.copy copied c.take_over.new.space turns,
      moved_then c.args.space.now m st is c.args.granule next c.young_evacuate_within.new.space c.in-Some.copy copied c.take_over.new.space turns,
      one_moved c.args.space.now m st is c.args.granule next c.young_evacuate_within.new.space c.in-Some.copy copied c.take_over.new.space turns,
    )

pub returns-in-Some-clause-short : goal.returns-in-Some-clause-short
returns-in-Some-clause-short c =
    let x = c.requires.may in
    let o = next_object c.args.space.now x.0 x.1 x.2 c.args.granule x.3 in
    let kept = next_kept c.args.space.now x.0 x.1 x.2 c.args.granule x.3 in
    let copied = (rw c.place_at-place.ensures at c.in-Some.ensures.copied) o.name (shape_of o.object) kept in
    let stands = copied_stands c.args.space.now x.0 x.1 x.2 c.args.granule x.3 c.young_evacuate_within.new.space c.in-Some.copy copied in
    let positive = copied_count c.args.space.now x.0 x.1 x.2 c.args.granule x.3 c.young_evacuate_within.new.space c.in-Some.copy copied in
    let turns = (rw c.place_at-place.ensures at c.take_over.ensures) o.name (shape_of o.object) stands in
    still_short c.young_evacuate_within.new.space c.take_over.new.space c.young_evacuate_within.new.shortage
    (taken_fewer c.young_evacuate_within.new.space c.take_over.new.space (c.args.granule + 1) c.in-Some.copy.0 (shape_of o.object) positive turns) c.young_evacuate_within.ensures.short

pub returns-in-None-clause-moves : goal.returns-in-None-clause-moves
returns-in-None-clause-moves c = λ m st is next.
    let o = next_object c.args.space.now m st is c.args.granule next in
    let kept = next_kept c.args.space.now m st is c.args.granule next in
    let full = ((rw c.place_at-place.ensures at c.in-None.ensures.none) o.name (shape_of o.object) kept).0 refl in (
      looked_to st (c.args.granule + 1) st.now,
      subst (λ s. IsMovingAway s m (looked_to st (c.args.granule + 1) st.now)) (sym c.in-None.ensures.unchanged) (kept_then c.args.space.now m st is c.args.granule next full),
      one_kept c.args.space.now m st is c.args.granule next,
    )
