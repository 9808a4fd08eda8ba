use Rattle.std.proofs.Common.{◌≡◌, ◌∙◌, ap, arith}
use Rattle.lxr_layout.specs.Places.{field_word}
use Rattle.lxr_image.specs.Spaces.{tables_of}
use Rattle.lxr_pause_decrements.proofs.SliceLemmas.{entry_appends, entry_beside, appends_none, nil_queued, queued_place, room_for, word_queued}
use Rattle.lxr_pause_decrements.proofs.slices.queue_field.Goals as goal

pub field_word-requires : goal.field_word-requires
field_word-requires c =
    let f = c.requires in
    let h = queued_place c.args.space.now c.args.place.0 c.args.index f.0 f.1 f.2 f.3 f.4 in
    (h.0, h.1)

pub heap_word-word-requires : goal.heap_word-word-requires
heap_word-word-requires c =
    let f = c.requires in
    let h = queued_place c.args.space.now c.args.place.0 c.args.index f.0 f.1 f.2 f.3 f.4 in
    let word = c.field_word.ensures in
    record { space = f.3.stage.space; at = omega (arith, h.2, word) }

pub queue_place-requires-clause-room : goal.queue_place-requires-clause-room
queue_place-requires-clause-room c = let f = c.requires in room_for c.args.space.now c.args.place.0 c.args.index f.0 f.1 f.2 f.3 f.4

pub returns-then-word-ne0-clause-queues : goal.returns-then-word-ne0-clause-queues
returns-then-word-ne0-clause-queues c = λ st r all q below.
    let is : c.heap_word-word.result ≡ (tables_of c.args.space.now).heap (field_word c.args.place.0 c.args.index) =
    c.heap_word-word.ensures ∙ ap (tables_of c.args.space.now).heap c.field_word.ensures in
    word_queued c.args.space.now c.queue_place.new.space c.args.place.0 c.args.index c.heap_word-word.result st r all q below c.if-word-ne0.true is c.queue_place.ensures

pub returns-then-word-ne0-clause-leaves : goal.returns-then-word-ne0-clause-leaves
returns-then-word-ne0-clause-leaves c = entry_beside c.args.space.now c.queue_place.new.space c.heap_word-word.result c.queue_place.ensures

pub returns-else-word-ne0-clause-queues : goal.returns-else-word-ne0-clause-queues
returns-else-word-ne0-clause-queues c = λ st r all q below.
    let is : c.heap_word-word.result ≡ (tables_of c.args.space.now).heap (field_word c.args.place.0 c.args.index) =
    c.heap_word-word.ensures ∙ ap (tables_of c.args.space.now).heap c.field_word.ensures in
    nil_queued c.args.space.now c.args.place.0 c.args.index c.heap_word-word.result st r all q below c.if-word-ne0.false is

pub returns-then-word-ne0-clause-appends : goal.returns-then-word-ne0-clause-appends
returns-then-word-ne0-clause-appends c = entry_appends c.args.space.now c.queue_place.new.space c.heap_word-word.result c.queue_place.ensures

pub returns-else-word-ne0-clause-appends : goal.returns-else-word-ne0-clause-appends
returns-else-word-ne0-clause-appends c = appends_none (tables_of c.args.space.now)
