use Rattle.std.proofs.Common.{◌≡◌, ◌∙◌, ap, List, length, arith, map, filter, true, false}
use Rattle.std.proofs.lemmas.List.{length-map}
use Rattle.lxr_graph.specs.History.{report_of}
use Rattle.lxr_large_bodies.specs.declared.entries.Entry.{Entry}
use Rattle.lxr_large_bodies.specs.Bodies.{Held, left_by}
use Rattle.lxr_large_bodies.specs.Entries.{body_at, is_settled, settled_where}
use Rattle.lxr_large_bodies.proofs.Sorted.{sorted_where}
use Rattle.lxr_large_bodies.proofs.Views.{entries_left, left_are, left_view, settled_moved, settles, written_back}
use Rattle.lxr_large_bodies.proofs.bodies.Bodies.after_pause.Goals as goal

pub settle-requires-2 : goal.settle-requires-2
settle-requires-2 c =
    let r = report_of c.args.report.now in
    let one = settles r.promoted c.found.result.now _ c.self.inside.entries.items c.deref_mut.result.now c.settle.new.entries c.deref_mut-2.result.now _ _ c.deref_mut.ensures.value c.deref_mut.ensures.len c.found.ensures c.settle.ensures c.deref_mut-2.ensures.value in
    rw one.are (sorted_where r.promoted true c.self.inside.entries.items c.self.invariant.sorted)

pub settle-requires-3 : goal.settle-requires-3
settle-requires-3 c =
    let r = report_of c.args.report.now in
    let one = settles r.promoted c.found.result.now _ c.self.inside.entries.items c.deref_mut.result.now c.settle.new.entries c.deref_mut-2.result.now _ _ c.deref_mut.ensures.value c.deref_mut.ensures.len c.found.ensures c.settle.ensures c.deref_mut-2.ensures.value in
    let two = settles r.dead c.found-2.result.now _ (map (settled_where r.promoted true) c.self.inside.entries.items) c.deref_mut-2.result.now c.settle-2.new.entries c.deref_mut-3.result.now _ _ one.are one.as_many c.found-2.ensures c.settle-2.ensures c.deref_mut-3.ensures.value in
    rw two.are (sorted_where r.dead false _ (sorted_where r.promoted true c.self.inside.entries.items c.self.invariant.sorted))

pub take_all-requires-clause-sorted : goal.take_all-requires-clause-sorted
take_all-requires-clause-sorted c =
    let r = report_of c.args.report.now in
    let one = settles r.promoted c.found.result.now _ c.self.inside.entries.items c.deref_mut.result.now c.settle.new.entries c.deref_mut-2.result.now _ _ c.deref_mut.ensures.value c.deref_mut.ensures.len c.found.ensures c.settle.ensures c.deref_mut-2.ensures.value in
    let two = settles r.dead c.found-2.result.now _ (map (settled_where r.promoted true) c.self.inside.entries.items) c.deref_mut-2.result.now c.settle-2.new.entries c.deref_mut-3.result.now _ _ one.are one.as_many c.found-2.ensures c.settle-2.ensures c.deref_mut-3.ensures.value in
    let three : map (settled_where c.found-3.result.now false) c.deref_mut-3.result.now ≡ map (settled_where r.swept false) (map (settled_where r.dead false) (map (settled_where r.promoted true) c.self.inside.entries.items)) =
    ap (λ (es : List Entry). map (settled_where c.found-3.result.now false) es) two.are ∙ settled_moved r.swept c.found-3.result.now false (map (settled_where r.dead false) (map (settled_where r.promoted true) c.self.inside.entries.items)) c.found-3.ensures in
    let many : length c.settle-3.new.entries ≡ _ = ap length c.settle-3.ensures ∙ length-map c.deref_mut-3.result.now _ ∙ two.as_many in
    let left : c.drop_unsettled.new.entries.items ≡ entries_left r c.self.inside.entries.items =
    c.drop_unsettled.ensures.items ∙ ap (λ (es : List Entry). filter is_settled es) (written_back _ c.settle-3.new.entries _ many ∙ c.settle-3.ensures ∙ three) in
    let are = left_are (length c.self.inside.taken.items) (length c.self.inside.words.items) r c.self.inside.entries.items (record { sorted = c.self.invariant.sorted; within = c.self.invariant.within; written = c.self.invariant.written }) in
    rw (c.deref.ensures.value, left) are.sorted

pub take_all-requires-clause-within : goal.take_all-requires-clause-within
take_all-requires-clause-within c =
    let r = report_of c.args.report.now in
    let one = settles r.promoted c.found.result.now _ c.self.inside.entries.items c.deref_mut.result.now c.settle.new.entries c.deref_mut-2.result.now _ _ c.deref_mut.ensures.value c.deref_mut.ensures.len c.found.ensures c.settle.ensures c.deref_mut-2.ensures.value in
    let two = settles r.dead c.found-2.result.now _ (map (settled_where r.promoted true) c.self.inside.entries.items) c.deref_mut-2.result.now c.settle-2.new.entries c.deref_mut-3.result.now _ _ one.are one.as_many c.found-2.ensures c.settle-2.ensures c.deref_mut-3.ensures.value in
    let three : map (settled_where c.found-3.result.now false) c.deref_mut-3.result.now ≡ map (settled_where r.swept false) (map (settled_where r.dead false) (map (settled_where r.promoted true) c.self.inside.entries.items)) =
    ap (λ (es : List Entry). map (settled_where c.found-3.result.now false) es) two.are ∙ settled_moved r.swept c.found-3.result.now false (map (settled_where r.dead false) (map (settled_where r.promoted true) c.self.inside.entries.items)) c.found-3.ensures in
    let many : length c.settle-3.new.entries ≡ _ = ap length c.settle-3.ensures ∙ length-map c.deref_mut-3.result.now _ ∙ two.as_many in
    let left : c.drop_unsettled.new.entries.items ≡ entries_left r c.self.inside.entries.items =
    c.drop_unsettled.ensures.items ∙ ap (λ (es : List Entry). filter is_settled es) (written_back _ c.settle-3.new.entries _ many ∙ c.settle-3.ensures ∙ three) in
    let are = left_are (length c.self.inside.taken.items) (length c.self.inside.words.items) r c.self.inside.entries.items (record { sorted = c.self.invariant.sorted; within = c.self.invariant.within; written = c.self.invariant.written }) in
    rw (c.deref.ensures.value, left, c.deref_mut-4.ensures.value) are.within

pub invariant_of-self : goal.invariant_of-self
invariant_of-self c =
    let r = report_of c.args.report.now in
    let one = settles r.promoted c.found.result.now _ c.self.inside.entries.items c.deref_mut.result.now c.settle.new.entries c.deref_mut-2.result.now _ _ c.deref_mut.ensures.value c.deref_mut.ensures.len c.found.ensures c.settle.ensures c.deref_mut-2.ensures.value in
    let two = settles r.dead c.found-2.result.now _ (map (settled_where r.promoted true) c.self.inside.entries.items) c.deref_mut-2.result.now c.settle-2.new.entries c.deref_mut-3.result.now _ _ one.are one.as_many c.found-2.ensures c.settle-2.ensures c.deref_mut-3.ensures.value in
    let three : map (settled_where c.found-3.result.now false) c.deref_mut-3.result.now ≡ map (settled_where r.swept false) (map (settled_where r.dead false) (map (settled_where r.promoted true) c.self.inside.entries.items)) =
    ap (λ (es : List Entry). map (settled_where c.found-3.result.now false) es) two.are ∙ settled_moved r.swept c.found-3.result.now false (map (settled_where r.dead false) (map (settled_where r.promoted true) c.self.inside.entries.items)) c.found-3.ensures in
    let many : length c.settle-3.new.entries ≡ _ = ap length c.settle-3.ensures ∙ length-map c.deref_mut-3.result.now _ ∙ two.as_many in
    let left : c.drop_unsettled.new.entries.items ≡ entries_left r c.self.inside.entries.items =
    c.drop_unsettled.ensures.items ∙ ap (λ (es : List Entry). filter is_settled es) (written_back _ c.settle-3.new.entries _ many ∙ c.settle-3.ensures ∙ three) in
    let are = left_are (length c.self.inside.taken.items) (length c.self.inside.words.items) r c.self.inside.entries.items (record { sorted = c.self.invariant.sorted; within = c.self.invariant.within; written = c.self.invariant.written }) in
    let back = written_back c.self.inside.taken.len c.take_all.new.taken c.self.inside.taken.items (c.take_all.ensures.length ∙ c.deref_mut-4.ensures.len) in
    let same = c.take_all.ensures.length ∙ ap length c.deref_mut-4.ensures.value in
    let was = c.self.invariant in
    let few = was.few in
    let roomy = was.roomy in
    let roomy_words = was.roomy_words in
    let fits = was.fits in
    let capacity = c.drop_unsettled.ensures.capacity in
    rw (back, left) (record {
      few = omega (arith, same, few);
      sorted = are.sorted;
      within = rw same are.within;
      taken = rw (c.deref.ensures.value, left) at c.take_all.ensures.taken;
      written = are.written;
      roomy = omega (arith, same, roomy, capacity);
      roomy_words = omega (arith, same, roomy_words);
      fits = omega (arith, same, fits);
    })

pub returns : goal.returns
returns c =
    let r = report_of c.args.report.now in
    let one = settles r.promoted c.found.result.now _ c.self.inside.entries.items c.deref_mut.result.now c.settle.new.entries c.deref_mut-2.result.now _ _ c.deref_mut.ensures.value c.deref_mut.ensures.len c.found.ensures c.settle.ensures c.deref_mut-2.ensures.value in
    let two = settles r.dead c.found-2.result.now _ (map (settled_where r.promoted true) c.self.inside.entries.items) c.deref_mut-2.result.now c.settle-2.new.entries c.deref_mut-3.result.now _ _ one.are one.as_many c.found-2.ensures c.settle-2.ensures c.deref_mut-3.ensures.value in
    let three : map (settled_where c.found-3.result.now false) c.deref_mut-3.result.now ≡ map (settled_where r.swept false) (map (settled_where r.dead false) (map (settled_where r.promoted true) c.self.inside.entries.items)) =
    ap (λ (es : List Entry). map (settled_where c.found-3.result.now false) es) two.are ∙ settled_moved r.swept c.found-3.result.now false (map (settled_where r.dead false) (map (settled_where r.promoted true) c.self.inside.entries.items)) c.found-3.ensures in
    let many : length c.settle-3.new.entries ≡ _ = ap length c.settle-3.ensures ∙ length-map c.deref_mut-3.result.now _ ∙ two.as_many in
    let left : c.drop_unsettled.new.entries.items ≡ entries_left r c.self.inside.entries.items =
    c.drop_unsettled.ensures.items ∙ ap (λ (es : List Entry). filter is_settled es) (written_back _ c.settle-3.new.entries _ many ∙ c.settle-3.ensures ∙ three) in
    let are = left_are (length c.self.inside.taken.items) (length c.self.inside.words.items) r c.self.inside.entries.items (record { sorted = c.self.invariant.sorted; within = c.self.invariant.within; written = c.self.invariant.written }) in
    let same = c.take_all.ensures.length ∙ ap length c.deref_mut-4.ensures.value in
    let back = written_back c.self.inside.taken.len c.take_all.new.taken c.self.inside.taken.items (c.take_all.ensures.length ∙ c.deref_mut-4.ensures.len) in
    let many = ap length back ∙ same ∙ ap (λ (h : Held). h.blocks) c.self.view_is in
    let bodies = ap (λ (es : List Entry). map (body_at c.self.inside.words.items) es) left ∙ left_view r c.self.inside.words.items c.self.inside.entries.items ∙ ap (λ (h : Held). left_by r h.bodies) c.self.view_is in
    λ i. record { blocks = many i; bodies = bodies i }
