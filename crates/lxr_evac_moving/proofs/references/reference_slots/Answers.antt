use Rattle.std.proofs.Common.{◌∙◌, arith}
use Rattle.lxr_evac_moving.proofs.FollowLemmas.{holder_place, holder_slots}
use Rattle.lxr_evac_moving.proofs.references.reference_slots.Goals as goal

pub reference_slots-requires-clause-heap : goal.reference_slots-requires-clause-heap
reference_slots-requires-clause-heap c =
    let r = c.requires in
    let h = holder_place c.args.space.now r.0 r.1 r.3 r.2 c.args.place.0 r.4 in
    (h.0, omega (arith, h.2))

pub returns : goal.returns
returns c = λ m st n is holder. c.reference_slots.ensures ∙ holder_slots c.args.space.now m st is n c.args.place.0 holder
