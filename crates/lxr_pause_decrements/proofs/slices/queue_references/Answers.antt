use Rattle.std.proofs.Common.{arith, subst}
use Rattle.lxr_image.specs.Spaces.{tables_of}
use Rattle.lxr_pause_decrements.specs.SliceSteps.{QueuesFrom}
use Rattle.lxr_pause_decrements.proofs.SliceLemmas.{appends_both, appends_none, beside_both, beside_none, queued_header, queued_there}
use Rattle.lxr_pause_decrements.proofs.slices.queue_references.Goals as goal

pub reference_slots-count-requires : goal.reference_slots-count-requires
reference_slots-count-requires c =
    let f = c.requires in
    let h = queued_there c.args.space.now c.args.place.0 f.0 f.1 f.2 f.3 in
    record { space = f.3.stage.space; place = (h.0, h.1); heap = h.2 }

pub loop-i-init : goal.loop-i-init
loop-i-init c = record { queues = λ st r all q. q; appends = appends_none (tables_of c.args.space.now); leaves = beside_none c.args.space.now }

pub queue_field-requires : goal.queue_field-requires
queue_field-requires c =
    let f = c.requires in
    let e = queued_header c.args.space.now c.args.place.0 c.reference_slots-count.result f.0 f.1 f.2 f.3 c.reference_slots-count.ensures in
    let t = c.loop-i-test.true in
    (f.0, f.1, f.2, c.loop-i.invariant.queues f.0 f.1 f.2 f.3, omega (arith, e, t))

pub loop-i-preserved : goal.loop-i-preserved
loop-i-preserved c = record {
  queues = λ st r all q.
      let e = queued_header c.args.space.now c.args.place.0 c.reference_slots-count.result st r all q c.reference_slots-count.ensures in
      let t = c.loop-i-test.true in
      c.queue_field.ensures.queues st r all (c.loop-i.invariant.queues st r all q) (omega (arith, e, t));
  appends = appends_both (tables_of c.args.space.now) (tables_of c.loop-i.space) (tables_of c.queue_field.new.space) c.loop-i.invariant.appends c.queue_field.ensures.appends;
  leaves = beside_both c.args.space.now c.loop-i.space c.queue_field.new.space c.loop-i.invariant.leaves c.queue_field.ensures.leaves;
}

pub returns-clause-queues : goal.returns-clause-queues
returns-clause-queues c = λ st r all q.
    let e = queued_header c.args.space.now c.args.place.0 c.reference_slots-count.result st r all q c.reference_slots-count.ensures in
    let t = c.loop-i-test.false in
    let u = c.loop-i.auto.i-end in
    subst (λ n. QueuesFrom c.loop-i.space c.args.place.0 n st r all) (omega (arith, e, t, u)) (c.loop-i.invariant.queues st r all q)
