use Rattle.std.proofs.Common.{◌∙◌, ap, arith, sym}
use Rattle.lxr_image.specs.Spaces.{tables_of}
use Rattle.lxr_layout.specs.Places.{field_word}
use Rattle.lxr_pause_increments.proofs.ChangedLemmas.{changed_leaves, field_unwritten, field_written, written_changes}
use Rattle.lxr_pause_increments.proofs.FrameLemmas.{leaves_both, same_blocks}
use Rattle.lxr_pause_increments.proofs.HeldLemmas.{field_is_raised, field_place, holder_place, raised_small}
use Rattle.lxr_pause_increments.proofs.ShortLemmas.{changed_short}
use Rattle.lxr_pause_increments.proofs.order.fix_field.Goals as goal

pub field_word-at-requires : goal.field_word-at-requires
field_word-at-requires c = let r = c.requires.may in (holder_place c.args.space.now r.0 r.1 r.2 r.3 c.args.place r.4 r.5).0

pub heap_word-word-requires-clause-at : goal.heap_word-word-requires-clause-at
heap_word-word-requires-clause-at c =
    let r = c.requires.may in
    let within = field_place c.args.space.now r.0 r.1 r.2 r.3 c.args.place c.args.index r.4 r.5 r.6.within in
    let e = c.field_word-at.ensures in
    omega (arith, within, e)

pub raise_word-now-requires-clause-may : goal.raise_word-now-requires-clause-may
raise_word-now-requires-clause-may c =
    let r = c.requires.may in
    let may = field_is_raised c.args.space.now r.0 r.1 r.2 r.3 c.args.place c.args.index c.field_word-at.result c.heap_word-word.result r.4 r.5 r.6.within c.field_word-at.ensures c.heap_word-word.ensures in
    (r.0, r.1, r.2, _, r.4, may)

pub put_heap-requires-clause-space : goal.put_heap-requires-clause-space
put_heap-requires-clause-space c =
    let r = c.requires.may in
    let may = field_is_raised c.args.space.now r.0 r.1 r.2 r.3 c.args.place c.args.index c.field_word-at.result c.heap_word-word.result r.4 r.5 r.6.within c.field_word-at.ensures c.heap_word-word.ensures in
    (c.raise_word-now.ensures.raises r.0 r.1 r.2 _ r.4 may).incrementing.space

pub put_heap-requires-clause-at : goal.put_heap-requires-clause-at
put_heap-requires-clause-at c =
    let r = c.requires.may in
    let within = field_place c.args.space.now r.0 r.1 r.2 r.3 c.args.place c.args.index r.4 r.5 r.6.within in
    let e = c.field_word-at.ensures in
    let same = same_blocks c.args.space.now c.raise_word-now.new.space c.raise_word-now.ensures.leaves in
    omega (arith, within, e, same)

pub overflow_cast-held : goal.overflow_cast-held
overflow_cast-held c =
    let r = c.requires.may in
    let may = field_is_raised c.args.space.now r.0 r.1 r.2 r.3 c.args.place c.args.index c.field_word-at.result c.heap_word-word.result r.4 r.5 r.6.within c.field_word-at.ensures c.heap_word-word.ensures in
    let small = raised_small c.args.space.now c.raise_word-now.new.space r.0 r.1 r.2 _ c.heap_word-word.result c.raise_word-now.result may (c.raise_word-now.ensures.raises r.0 r.1 r.2 _ r.4 may) in
    omega (arith, small)

pub returns-clause-fixes : goal.returns-clause-fixes
returns-clause-fixes c = λ m at st u is holder raisable.
    let may = field_is_raised c.args.space.now m at st u c.args.place c.args.index c.field_word-at.result c.heap_word-word.result is holder raisable.within c.field_word-at.ensures c.heap_word-word.ensures in
    let raises = c.raise_word-now.ensures.raises m at st _ is may in
    field_written c.args.space.now c.raise_word-now.new.space m at st u c.args.place.0 c.args.index c.raise_word-now.result is holder raisable raises c.put_heap.new.self c.field_word-at.result c.field_word-at.ensures c.put_heap.ensures

pub returns-clause-leaves : goal.returns-clause-leaves
returns-clause-leaves c =
    leaves_both c.args.space.now c.raise_word-now.new.space c.put_heap.new.self c.raise_word-now.ensures.leaves
    (changed_leaves c.raise_word-now.new.space c.put_heap.new.self (written_changes c.raise_word-now.new.space c.put_heap.new.self c.field_word-at.result c.raise_word-now.result c.put_heap.ensures))

pub returns-then-now-word-clause-fixes : goal.returns-then-now-word-clause-fixes
returns-then-now-word-clause-fixes c = λ m at st u is holder raisable.
    let may = field_is_raised c.args.space.now m at st u c.args.place c.args.index c.field_word-at.result c.heap_word-word.result is holder raisable.within c.field_word-at.ensures c.heap_word-word.ensures in
    let raises = c.raise_word-now.ensures.raises m at st _ is may in
    let told = ap (λ x. (tables_of c.args.space.now).heap (field_word x c.args.index)) (sym holder.stands) ∙ sym (ap (tables_of c.args.space.now).heap c.field_word-at.ensures) ∙ sym c.heap_word-word.ensures ∙ sym c.if-now-word.true in
    field_unwritten c.args.space.now c.raise_word-now.new.space m at st u c.args.place.0 c.args.index c.raise_word-now.result is holder raisable raises told

pub returns-clause-short : goal.returns-clause-short
returns-clause-short c =
    changed_short c.raise_word-now.new.space c.put_heap.new.self c.raise_word-now.new.shortage
    (written_changes c.raise_word-now.new.space c.put_heap.new.self c.field_word-at.result c.raise_word-now.result c.put_heap.ensures) c.raise_word-now.ensures.short
