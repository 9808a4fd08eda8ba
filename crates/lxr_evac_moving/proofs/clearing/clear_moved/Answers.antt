use Rattle.std.proofs.Common.{◌≡◌, ◌∙◌, ◌*◌, ap, subst, sym}
use Rattle.lxr_layout.specs.declared.Header.TheVariants.{Moved, Object}
use Rattle.lxr_layout.specs.Objects.{FitsShape, header_of}
use Rattle.lxr_image.specs.Spaces.{tables_of}
use Rattle.lxr_evac_moving.proofs.ClearingLemmas.{clears_kept, clears_left, shape_within, stands_there}
use Rattle.lxr_evac_moving.proofs.clearing.clear_moved.Goals as goal

pub object-requires : goal.object-requires
object-requires c =
    let r = c.requires in
    let told : header_of ((tables_of c.args.space.now).heap (2 * c.args.granule)) ≡ Moved c.in-Moved.now = sym (ap header_of c.heap_word.ensures) ∙ sym c.unpack.ensures ∙ c.in-Moved.is in
    (_, _, stands_there c.args.space.now r.0 r.1 r.2 c.args.granule r.3 r.4 c.in-Moved.now told)

pub clear_counted-requires-clause-shape : goal.clear_counted-requires-clause-shape
clear_counted-requires-clause-shape c =
    let r = c.requires in
    let told : header_of ((tables_of c.args.space.now).heap (2 * c.args.granule)) ≡ Moved c.in-Moved.now = sym (ap header_of c.heap_word.ensures) ∙ sym c.unpack.ensures ∙ c.in-Moved.is in
    let stands = stands_there c.args.space.now r.0 r.1 r.2 c.args.granule r.3 r.4 c.in-Moved.now told in
    subst (λ z. FitsShape z.1) (sym (c.object.ensures _ _ stands)) stands.whole.shape

pub clear_counted-requires-clause-heap : goal.clear_counted-requires-clause-heap
clear_counted-requires-clause-heap c =
    let r = c.requires in
    let told : header_of ((tables_of c.args.space.now).heap (2 * c.args.granule)) ≡ Moved c.in-Moved.now = sym (ap header_of c.heap_word.ensures) ∙ sym c.unpack.ensures ∙ c.in-Moved.is in
    let stands = stands_there c.args.space.now r.0 r.1 r.2 c.args.granule r.3 r.4 c.in-Moved.now told in
    rw c.place_at.ensures (shape_within c.args.space.now r.0 r.1 r.2 c.args.granule r.3 r.4 c.object.result.1 (ap (λ z. z.1) (c.object.ensures _ _ stands)))

pub returns-in-Moved-clause-clears : goal.returns-in-Moved-clause-clears
returns-in-Moved-clause-clears c = λ m st from is next.
    let told : header_of ((tables_of c.args.space.now).heap (2 * c.args.granule)) ≡ Moved c.in-Moved.now = sym (ap header_of c.heap_word.ensures) ∙ sym c.unpack.ensures ∙ c.in-Moved.is in
    let stands = stands_there c.args.space.now m st from c.args.granule is next c.in-Moved.now told in
    let same = ap (λ z. z.1) (c.object.ensures _ _ stands) in
    clears_left c.args.space.now m st from c.args.granule is next c.clear_counted.new.space c.in-Moved.now c.object.result.1 told same (rw c.place_at.ensures at c.clear_counted.ensures)

pub returns-in_default-clause-clears : goal.returns-in_default-clause-clears
returns-in_default-clause-clears c = λ m st from is next.
    let told : header_of ((tables_of c.args.space.now).heap (2 * c.args.granule)) ≡ Object c.in_default.field-0 c.in_default.field-1 = sym (ap header_of c.heap_word.ensures) ∙ sym c.unpack.ensures ∙ c.in_default.is in
    clears_kept c.args.space.now m st from c.args.granule is next c.in_default.field-0 c.in_default.field-1 told
