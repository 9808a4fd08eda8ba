use Rattle.std.proofs.Common.{◌∙◌, ◌<◌, arith, length, subst, sym}
use Rattle.std.specs.Prelude.{Some}
use Rattle.lxr_graph.specs.State.{object_at, refs_of}
use Rattle.lxr_image.specs.Spaces.{tables_of}
use Rattle.lxr_evac_moving.specs.Stages.{IsFixed}
use Rattle.lxr_evac_moving.proofs.EntryLemmas.{entry_holder, entry_place, entry_word, field_begun, field_current, field_holder, field_parts, holder_of, one_entry_more}
use Rattle.lxr_evac_moving.proofs.references.fix_entry.Goals as goal
use Rattle.lxr_evac_moving.proofs.references.fix_entry.Goals.{then-not-is_current-via-then-not-is_current, then-not-is_current-via-else-not-is_current+then-not-has_start}

pub entry_of-index-requires : goal.entry_of-index-requires
entry_of-index-requires c =
    let r = c.requires in
    let x = entry_word c.args.space.now r.0 r.1 r.2.evacuating c.args.number c.remembered_at-entry.result r.3 r.4 c.remembered_at-entry.ensures in
    (x.0, x.1, x.2, x.3.entry, x.3.is)

pub is_current-requires-clause-entry : goal.is_current-requires-clause-entry
is_current-requires-clause-entry c =
    let r = c.requires in entry_word c.args.space.now r.0 r.1 r.2.evacuating c.args.number c.remembered_at-entry.result r.3 r.4 c.remembered_at-entry.ensures

pub granule_of-requires : goal.granule_of-requires
granule_of-requires c =
    let r = c.requires in
    let x = entry_word c.args.space.now r.0 r.1 r.2.evacuating c.args.number c.remembered_at-entry.result r.3 r.4 c.remembered_at-entry.ensures in
    (entry_place c.args.space.now r.0 r.1 r.2.evacuating c.remembered_at-entry.result x.0 x.1 x.2 c.entry_of-index.result x.3 (c.entry_of-index.ensures x.0 x.1 x.2 x.3.entry x.3.is)).0

pub has_start-requires-clause-granule : goal.has_start-requires-clause-granule
has_start-requires-clause-granule c =
    let r = c.requires in
    let x = entry_word c.args.space.now r.0 r.1 r.2.evacuating c.args.number c.remembered_at-entry.result r.3 r.4 c.remembered_at-entry.ensures in
    let within = (entry_place c.args.space.now r.0 r.1 r.2.evacuating c.remembered_at-entry.result x.0 x.1 x.2 c.entry_of-index.result x.3 (c.entry_of-index.ensures x.0 x.1 x.2 x.3.entry x.3.is)).1 in
    let granule = c.granule_of.ensures in
    omega (arith, within, granule)

pub returns-then-not-is_current : goal.returns-then-not-is_current
returns-then-not-is_current c = λ m st before. one_entry_more c.args.space.now c.args.space.now m st c.args.number before before.evacuating (λ n i fixed. fixed) (λ n i tells. absurd (elim c.then-not-is_current.branch [
  | then-not-is_current-via-then-not-is_current w ↦
      let current = field_current c.args.space.now m st before.evacuating c.args.number n i tells c.requires.3 c.requires.4 c.remembered_at-entry.result c.is_current.result c.remembered_at-entry.ensures c.is_current.ensures in
      let stale = w.if-not-is_current.true in
      cc
  | then-not-is_current-via-else-not-is_current+then-not-has_start w ↦
      let parts = field_parts c.args.space.now m st before.evacuating c.args.number n i tells c.requires.3 c.requires.4 c.remembered_at-entry.result c.entry_of-index.result c.remembered_at-entry.ensures c.entry_of-index.ensures in
      let begun = field_begun c.args.space.now m st before.evacuating c.args.number n i tells c.entry_of-index.result.1.0 parts.0 before.uncleared in
      let none = sym (rw w.granule_of.ensures at w.has_start.ensures) ∙ w.if-not-has_start.true in
      cc
]))

pub present_place-holder-requires : goal.present_place-holder-requires
present_place-holder-requires c =
    let r = c.requires in
    let x = entry_holder c.args.space.now r.0 r.1 r.2.evacuating c.args.number c.remembered_at-entry.result c.entry_of-index.result r.3 r.4 c.remembered_at-entry.ensures c.entry_of-index.ensures
    (sym (rw c.granule_of.ensures at c.has_start.ensures) ∙ c.if-not-has_start.false) in
    (r.0, r.1, Some x.0, r.2.evacuating, x.1)

pub reference_slots-requires : goal.reference_slots-requires
reference_slots-requires c =
    let r = c.requires in
    let x = entry_holder c.args.space.now r.0 r.1 r.2.evacuating c.args.number c.remembered_at-entry.result c.entry_of-index.result r.3 r.4 c.remembered_at-entry.ensures c.entry_of-index.ensures
    (sym (rw c.granule_of.ensures at c.has_start.ensures) ∙ c.if-not-has_start.false) in
    (r.0, r.1, x.0, r.2.evacuating, holder_of c.args.space.now r.0 r.1 r.2.evacuating x.0 c.entry_of-index.result.1.0 c.present_place-holder.result.0 x.1 (c.present_place-holder.ensures r.0 r.1 _ r.2.evacuating x.1))

pub fix_reference-requires : goal.fix_reference-requires
fix_reference-requires c =
    let r = c.requires in
    let x = entry_holder c.args.space.now r.0 r.1 r.2.evacuating c.args.number c.remembered_at-entry.result c.entry_of-index.result r.3 r.4 c.remembered_at-entry.ensures c.entry_of-index.ensures
    (sym (rw c.granule_of.ensures at c.has_start.ensures) ∙ c.if-not-has_start.false) in
    let holder = holder_of c.args.space.now r.0 r.1 r.2.evacuating x.0 c.entry_of-index.result.1.0 c.present_place-holder.result.0 x.1 (c.present_place-holder.ensures r.0 r.1 _ r.2.evacuating x.1) in
    let count = c.reference_slots.ensures r.0 r.1 x.0 r.2.evacuating holder in
    let low = c.if-index-reference_slots.true in
    (r.0, r.1, x.0, r.2.evacuating, holder, omega (arith, count, low))

pub returns-then-index-reference_slots : goal.returns-then-index-reference_slots
returns-then-index-reference_slots c = λ m st before.
    let r = c.requires in
    let is = before.evacuating in
    let x = entry_holder c.args.space.now m st is c.args.number c.remembered_at-entry.result c.entry_of-index.result r.3 r.4 c.remembered_at-entry.ensures c.entry_of-index.ensures
    (sym (rw c.granule_of.ensures at c.has_start.ensures) ∙ c.if-not-has_start.false) in
    let holder = holder_of c.args.space.now m st is x.0 c.entry_of-index.result.1.0 c.present_place-holder.result.0 x.1 (c.present_place-holder.ensures m st _ is x.1) in
    let count = c.reference_slots.ensures m st x.0 is holder in
    let low = c.if-index-reference_slots.true in
    let fixes = c.fix_reference.ensures m st x.0 is holder (omega (arith, count, low)) in
    one_entry_more c.args.space.now c.fix_reference.new.space m st c.args.number before fixes.evacuating fixes.keeps (λ n i tells.
    let parts = field_parts c.args.space.now m st is c.args.number n i tells c.requires.3 c.requires.4 c.remembered_at-entry.result c.entry_of-index.result c.remembered_at-entry.ensures c.entry_of-index.ensures in
    let there = field_holder c.args.space.now m st is c.args.number n i tells c.entry_of-index.result.1.0 parts.0 in
    let here = holder_of c.args.space.now m st is n c.entry_of-index.result.1.0 c.present_place-holder.result.0 there (c.present_place-holder.ensures m st _ is there) in
    let within = subst (λ z. z < length (refs_of (object_at m.state.graph n))) (sym parts.1) tells.within in
    subst (λ z. IsFixed (tables_of c.fix_reference.new.space) m st n z) parts.1 (c.fix_reference.ensures m st n is here within).fixed)

pub returns-else-index-reference_slots : goal.returns-else-index-reference_slots
returns-else-index-reference_slots c = λ m st before. one_entry_more c.args.space.now c.args.space.now m st c.args.number before before.evacuating (λ n i fixed. fixed) (λ n i tells.
    let is = before.evacuating in
    let parts = field_parts c.args.space.now m st is c.args.number n i tells c.requires.3 c.requires.4 c.remembered_at-entry.result c.entry_of-index.result c.remembered_at-entry.ensures c.entry_of-index.ensures in
    let there = field_holder c.args.space.now m st is c.args.number n i tells c.entry_of-index.result.1.0 parts.0 in
    let here = holder_of c.args.space.now m st is n c.entry_of-index.result.1.0 c.present_place-holder.result.0 there (c.present_place-holder.ensures m st _ is there) in
    let count = c.reference_slots.ensures m st n is here in
    let high = c.if-index-reference_slots.false in
    let index = parts.1 in
    let low = tells.within in
    absurd (omega (arith, count, high, index, low)))
