use Rattle.std.proofs.Common.{◌≡◌, ◌+◌, ◌-◌, ◌*◌, ◌<◌, ◌≤◌, ℕ, ap, arith, subst}
use Rattle.std.specs.Prelude.{not}
use Rattle.lxr_layout.specs.declared.Name.{Name}
use Rattle.lxr_image.specs.Spaces.{tables_of}
use Rattle.lxr_blocks.specs.Masks.{one_if}
use Rattle.lxr_model.specs.Moments.{Moment}
use Rattle.lxr_evac_moving.specs.declared.evacuating.Evacuated.{Evacuated}
use Rattle.lxr_evac_moving.specs.Stages.{granules}
use Rattle.lxr_evac_moving.specs.Steps.{CanMove, NoneBegins, first_stage}
use Rattle.lxr_evac_moving.proofs.AllLemmas.{HasMovedBelow, counted_kept, counted_moved, moved_all, moved_limits, moved_more, moved_none}
use Rattle.lxr_evac_moving.proofs.LookedLemmas.{looked_to}
use Rattle.lxr_evac_moving.proofs.moving.move_objects.Goals as goal
use Rattle.lxr_evac_moving.proofs.moving.move_objects.Goals.{then-move_object, else-move_object}

pub loop-granule-init : goal.loop-granule-init
loop-granule-init c = record {
  moving = λ m at can. moved_none c.args.space.now m at can.can;
  short = c.unknown-shortage.ensures c.args.space.now;
  few = omega arith;
  within = omega arith;
}

pub next_chosen-requires : goal.next_chosen-requires
next_chosen-requires c = (c.loop-granule.invariant.moving c.requires.0 c.requires.1 c.requires.2).moving.evacuating.space

pub move_object-requires-clause-may : goal.move_object-requires-clause-may
move_object-requires-clause-may c =
    let x = c.loop-granule.invariant.moving c.requires.0 c.requires.1 c.requires.2 in
    (c.requires.0, looked_to (first_stage c.args.space.now c.requires.1) c.loop-granule.from x.now, x.moving, c.in-Some.ensures.next)

-- the granules of the heap are as many as they were
heap_same : (c : goal.Joined-move_object) → granules c.loop-granule.space ≡ granules c.args.space.now
heap_same c =
    let x = c.loop-granule.invariant.moving c.requires.0 c.requires.1 c.requires.2 in
    ap (λ l. 2048 * l.blocks) (moved_limits c.args.space.now c.loop-granule.space c.requires.0 c.requires.1 c.loop-granule.from c.loop-granule.evacuated.moved c.loop-granule.evacuated.kept x)

pub overflow_add-from : goal.overflow_add-from
overflow_add-from c =
    let x = c.loop-granule.invariant.moving c.requires.0 c.requires.1 c.requires.2 in
    let few = x.moving.evacuating.space.limits.blocks.1 in
    let within = c.in-Some.ensures.next.within in
    omega (arith, few, within)

pub loop-granule-smaller : goal.loop-granule-smaller
loop-granule-smaller c =
    let same = heap_same c in
    let next = c.in-Some.ensures.next in
    let reached = next.reached in
    let within = next.within in
    let smaller : granules c.args.space.now - (c.in-Some.granule + 1) < granules c.args.space.now - c.loop-granule.from = omega (arith, same, reached, within) in
    smaller

-- all below the next granule is looked at
looked_next : (c : goal.Joined-move_object) (m : Moment) (at : Name → ℕ) → CanMove c.args.space.now m at
    → HasMovedBelow c.args.space.now c.move_object.new.space m at (c.in-Some.granule + 1) (c.loop-granule.evacuated.moved + one_if c.move_object.result) (c.loop-granule.evacuated.kept + one_if (not c.move_object.result))
looked_next c m at can =
    let x = c.loop-granule.invariant.moving m at can in
    let y = c.move_object.ensures.moves m (looked_to (first_stage c.args.space.now at) c.loop-granule.from x.now) x.moving c.in-Some.ensures.next in
    moved_more c.args.space.now c.loop-granule.space c.move_object.new.space m at c.loop-granule.from c.loop-granule.evacuated.moved c.loop-granule.evacuated.kept (c.in-Some.granule + 1)
    (one_if c.move_object.result) (one_if (not c.move_object.result)) x y.0 y.1 y.2

pub loop-granule-preserved : goal.loop-granule-preserved
loop-granule-preserved c =
    let same = heap_same c in
    let next = c.in-Some.ensures.next in
    let reached = next.reached in
    let within = next.within in
    let few = c.loop-granule.invariant.few in
    let all : c.in-Some.granule + 1 ≤ granules c.args.space.now = omega (arith, within, same) in
    elim c.if-move_object.branch [
      | then-move_object w ↦
          let moved = ap (λ (e : Evacuated). e.moved) w.evacuated-is in
          let kept = ap (λ (e : Evacuated). e.kept) w.evacuated-is in
          record {
            moving = λ m at can. counted_moved c.args.space.now c.move_object.new.space m at (c.in-Some.granule + 1) c.loop-granule.evacuated c.if-move_object.evacuated c.move_object.result w.if-move_object.true
                w.evacuated-is (looked_next c m at can);
            short = c.move_object.ensures.short;
            few = omega (arith, moved, kept, few, reached);
            within = all;
          }
      | else-move_object w ↦
          let moved = ap (λ (e : Evacuated). e.moved) w.evacuated-is in
          let kept = ap (λ (e : Evacuated). e.kept) w.evacuated-is in
          record {
            moving = λ m at can. counted_kept c.args.space.now c.move_object.new.space m at (c.in-Some.granule + 1) c.loop-granule.evacuated c.if-move_object.evacuated c.move_object.result w.if-move_object.false
                w.evacuated-is (looked_next c m at can);
            short = c.move_object.ensures.short;
            few = omega (arith, moved, kept, few, reached);
            within = all;
          }
    ]

pub returns : goal.returns
returns c = λ m at can.
    let x = c.loop-granule.invariant.moving m at can in
    let same = moved_limits c.args.space.now c.loop-granule.space m at c.loop-granule.from c.loop-granule.evacuated.moved c.loop-granule.evacuated.kept x in (
      x.now,
      moved_all c.args.space.now c.loop-granule.space m at c.loop-granule.from c.loop-granule.evacuated x c.loop-granule.invariant.few c.loop-granule.invariant.within
          (subst (λ l. NoneBegins (tables_of c.loop-granule.space) c.loop-granule.from (2048 * l.blocks)) same c.in_default.ensures.none),
    )
