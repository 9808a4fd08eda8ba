use Rattle.std.proofs.Common.{◌≡◌, ◌∙◌, ap, arith, sym}
use Rattle.lxr_layout.specs.Places.{field_word}
use Rattle.lxr_image.specs.Reads.{granule_of}
use Rattle.lxr_image.specs.Spaces.{tables_of}
use Rattle.lxr_pause_decrements.proofs.SpaceLemmas.{keeps_none}
use Rattle.lxr_pause_decrements.proofs.DrainLemmas.{member_field}
use Rattle.lxr_pause_decrements.proofs.HandledLemmas.{some_none}
use Rattle.lxr_pause_decrements.proofs.FoundLemmas.{held_place}
use Rattle.lxr_pause_decrements.proofs.handled.reclaim_handled_field.Goals as goal

pub field_word-requires : goal.field_word-requires
field_word-requires c =
    let f = c.requires in
    let h = member_field c.args.space.now c.args.place.0 c.args.index f.0 f.1 f.2.space f.2.handling.remains.ground f.3 in
    (h.0, h.1)

pub heap_word-word-requires : goal.heap_word-word-requires
heap_word-word-requires c =
    let f = c.requires in
    let h = member_field c.args.space.now c.args.place.0 c.args.index f.0 f.1 f.2.space f.2.handling.remains.ground f.3 in
    let word = c.field_word.ensures in
    record { space = f.2.space; at = omega (arith, h.2, word) }

pub overflow_cast-word : goal.overflow_cast-word
overflow_cast-word c =
    let reads : c.heap_word-word.result ≡ (tables_of c.args.space.now).heap (field_word c.args.place.0 c.args.index) = c.heap_word-word.ensures ∙ ap (tables_of c.args.space.now).heap c.field_word.ensures in
    let f = c.requires in
    let h = held_place c.args.space.now c.args.place.0 c.args.index c.heap_word-word.result f.0 f.1 f.2 f.3 c.if-word-ne0.true reads in
    omega (arith, h.1)

pub reclaim_handled-requires-clause-place : goal.reclaim_handled-requires-clause-place
reclaim_handled-requires-clause-place c =
    let reads : c.heap_word-word.result ≡ (tables_of c.args.space.now).heap (field_word c.args.place.0 c.args.index) = c.heap_word-word.ensures ∙ ap (tables_of c.args.space.now).heap c.field_word.ensures in
    let f = c.requires in
    let h = held_place c.args.space.now c.args.place.0 c.args.index c.heap_word-word.result f.0 f.1 f.2 f.3 c.if-word-ne0.true reads in
    (h.0, h.1)

pub reclaim_handled-requires-clause-heap : goal.reclaim_handled-requires-clause-heap
reclaim_handled-requires-clause-heap c =
    let reads : c.heap_word-word.result ≡ (tables_of c.args.space.now).heap (field_word c.args.place.0 c.args.index) = c.heap_word-word.ensures ∙ ap (tables_of c.args.space.now).heap c.field_word.ensures in
    let f = c.requires in
    (held_place c.args.space.now c.args.place.0 c.args.index c.heap_word-word.result f.0 f.1 f.2 f.3 c.if-word-ne0.true reads).2

pub returns-then-word-ne0-clause-undone : goal.returns-then-word-ne0-clause-undone
returns-then-word-ne0-clause-undone c = λ some.
    let reads : c.heap_word-word.result ≡ (tables_of c.args.space.now).heap (field_word c.args.place.0 c.args.index) = c.heap_word-word.ensures ∙ ap (tables_of c.args.space.now).heap c.field_word.ensures in
    let same = ap (λ f. f (field_word c.args.place.0 c.args.index)) c.reclaim_handled.ensures.keeps.leaves.tables.keeps.heap in
    ap (λ z. (tables_of c.reclaim_handled.new.space).dones (granule_of z)) (same ∙ sym reads) ∙ c.reclaim_handled.ensures.undone

pub returns-else-word-ne0-clause-reclaims : goal.returns-else-word-ne0-clause-reclaims
returns-else-word-ne0-clause-reclaims c = some_none c.args.space.now

pub returns-else-word-ne0-clause-undone : goal.returns-else-word-ne0-clause-undone
returns-else-word-ne0-clause-undone c = λ some.
    let reads : c.heap_word-word.result ≡ (tables_of c.args.space.now).heap (field_word c.args.place.0 c.args.index) = c.heap_word-word.ensures ∙ ap (tables_of c.args.space.now).heap c.field_word.ensures in
    absurd (some (sym reads ∙ c.if-word-ne0.false))

pub returns-else-word-ne0-clause-keeps : goal.returns-else-word-ne0-clause-keeps
returns-else-word-ne0-clause-keeps c = keeps_none c.args.space.now
