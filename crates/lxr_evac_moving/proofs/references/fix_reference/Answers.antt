use Rattle.std.proofs.Common.{◌∙◌, arith, sym}
use Rattle.lxr_evac_moving.proofs.FixLemmas.{field_in_heap, field_kept, field_put, read_member}
use Rattle.lxr_evac_moving.proofs.FollowLemmas.{held_small, holder_place}
use Rattle.lxr_evac_moving.proofs.references.fix_reference.Goals as goal

pub field_word-at-requires : goal.field_word-at-requires
field_word-at-requires c = let r = c.requires in let h = holder_place c.args.space.now r.0 r.1 r.3 r.2 c.args.place.0 r.4 in (h.0, h.1)

pub heap_word-requires-clause-at : goal.heap_word-requires-clause-at
heap_word-requires-clause-at c =
    let r = c.requires in field_in_heap c.args.space.now r.0 r.1 r.3 r.2 c.args.place.0 c.args.index c.field_word-at.result 0 r.4 r.5 c.field_word-at.ensures

pub overflow_cast-held : goal.overflow_cast-held
overflow_cast-held c =
    let r = c.requires in
    let holds = read_member c.args.space.now r.0 r.1 r.3 r.2 c.args.place.0 c.args.index c.field_word-at.result c.heap_word.result r.4 r.5 c.field_word-at.ensures c.heap_word.ensures in
    let small = held_small c.args.space.now r.0 r.1 r.3 c.heap_word.result _ holds in
    omega (arith, small)

pub present_place-now-requires : goal.present_place-now-requires
present_place-now-requires c =
    let r = c.requires in
    let holds = read_member c.args.space.now r.0 r.1 r.3 r.2 c.args.place.0 c.args.index c.field_word-at.result c.heap_word.result r.4 r.5 c.field_word-at.ensures c.heap_word.ensures in
    (r.0, r.1, _, r.3, holds)

pub put_heap-requires-clause-at : goal.put_heap-requires-clause-at
put_heap-requires-clause-at c =
    let r = c.requires in field_in_heap c.args.space.now r.0 r.1 r.3 r.2 c.args.place.0 c.args.index c.field_word-at.result 0 r.4 r.5 c.field_word-at.ensures

pub returns-then-now-held : goal.returns-then-now-held
returns-then-now-held c = λ m st n is holder within.
    let holds = read_member c.args.space.now m st is n c.args.place.0 c.args.index c.field_word-at.result c.heap_word.result holder within c.field_word-at.ensures c.heap_word.ensures in
    field_put c.args.space.now m st is n c.args.place.0 c.args.index c.field_word-at.result c.from.result holder within c.field_word-at.ensures c.put_heap.new.self
    (c.from.ensures ∙ c.present_place-now.ensures m st _ is holds) c.put_heap.ensures

pub returns-else-now-held : goal.returns-else-now-held
returns-else-now-held c = λ m st n is holder within.
    let holds = read_member c.args.space.now m st is n c.args.place.0 c.args.index c.field_word-at.result c.heap_word.result holder within c.field_word-at.ensures c.heap_word.ensures in
    field_kept c.args.space.now m st is n c.args.place.0 c.args.index c.field_word-at.result c.heap_word.result holder within c.field_word-at.ensures c.heap_word.ensures
    (sym c.if-now-held.false ∙ c.present_place-now.ensures m st _ is holds)
