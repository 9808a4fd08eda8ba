use Rattle.std.proofs.Common.{◌∙◌, ap, arith}
use Rattle.lxr_image.specs.Reads.{slots_of}
use Rattle.lxr_pause_increments.proofs.HeldLemmas.{holder_header, holder_place}
use Rattle.lxr_pause_increments.proofs.order.reference_slots.Goals as goal

pub reference_slots-requires-clause-heap : goal.reference_slots-requires-clause-heap
reference_slots-requires-clause-heap c =
    let place = holder_place c.args.space.now c.requires.0 c.requires.1 c.requires.2 c.requires.3 c.args.place c.requires.4 c.requires.5 in
    (place.0.0, omega (arith, place.1))

pub returns : goal.returns
returns c = λ m at st u incrementing holder.
    let x = holder_header c.args.space.now m at st u c.args.place incrementing holder in
    c.reference_slots.ensures ∙ ap slots_of x.1 ∙ x.2
