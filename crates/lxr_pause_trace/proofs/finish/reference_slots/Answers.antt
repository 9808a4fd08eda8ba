use Rattle.std.proofs.Common.{◌*◌, ◌≤◌, ◌∙◌, ap, arith, subst, sym}
use Rattle.lxr_layout.specs.declared.TheConstants.{GRANULES_IN_BLOCK}
use Rattle.lxr_layout.specs.Objects.{header_of}
use Rattle.lxr_layout.specs.Places.{first_word}
use Rattle.lxr_image.specs.Reads.{granule_of, slots_of}
use Rattle.lxr_image.specs.Spaces.{tables_of}
use Rattle.lxr_image.proofs.ReadLemmas.{header_unpacked}
use Rattle.lxr_pause_trace.specs.Marking.{slots_in}
use Rattle.lxr_pause_trace.proofs.LeftLemmas.{left_start, whole_header}
use Rattle.lxr_pause_trace.proofs.ScanLemmas.{slots_were}
use Rattle.lxr_pause_trace.proofs.finish.reference_slots.Goals as goal

pub reference_slots-requires : goal.reference_slots-requires
reference_slots-requires c =
    let before = c.requires.0 in
    let is = c.requires.1 in
    let begins = left_start (tables_of before) before.limits.blocks is.stage.traceable c.args.place.0 is.waited.left in
    let object = is.stage.traceable.whole (granule_of c.args.place.0) begins.1 in
    let placed = begins.0 in
    let fits = object.2.in_heap in
    record {
      space = is.stage.space;
      heap = (placed, subst (λ l. c.args.place.0 ≤ GRANULES_IN_BLOCK * l.blocks) (sym (ap (λ z. z.limits) is.stage.rest)) (omega (arith, placed, fits)));
    }

pub returns : goal.returns
returns c =
    let before = c.requires.0 in
    let is = c.requires.1 in
    let p = c.args.place.0 in
    let begins = left_start (tables_of before) before.limits.blocks is.stage.traceable p is.waited.left in
    let object = is.stage.traceable.whole (granule_of p) begins.1 in
    let header = ap (λ t. header_of (t.heap (first_word p))) is.stage.tables ∙ ap header_of object.2.header ∙ header_unpacked object.0 object.1 object.2.name object.2.shape in
    let there = slots_were before c.args.space.now _ _ _ is.stage p ∙ ap slots_in (whole_header (tables_of before) before.limits.blocks p object.0 object.1 begins.0 begins.1 object.2) in
    c.reference_slots.ensures ∙ ap slots_of header ∙ sym there
