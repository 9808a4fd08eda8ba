use Rattle.std.proofs.Common.{arith}
use Rattle.lxr_pause_trace.proofs.PassingLemmas.{counts_on, held_within, may_remember, no_more_to_do, passed_over}
use Rattle.lxr_pause_trace.proofs.ScanLemmas.{due_place, due_room, passed_nil, scanned_holds, scanned_place, scanned_word, word_due}
use Rattle.lxr_pause_trace.proofs.finish.scan_field.Goals as goal

pub overflow_cast-held : goal.overflow_cast-held
overflow_cast-held c =
    let due = word_due c.requires.0 c.args.space.now c.args.place c.args.index c.field_word.result c.heap_word-word.result c.requires.1 c.requires.2 c.field_word.ensures c.heap_word-word.ensures c.if-word-ne0.true in
    let inside = due_place c.requires.0 c.args.space.now _ _ _ c.requires.1.stage c.heap_word-word.result due in
    omega (arith, inside.1)

pub field_word-requires : goal.field_word-requires
field_word-requires c = scanned_place c.requires.0 c.args.space.now c.args.place c.args.index c.requires.1

pub heap_word-word-requires-clause-at : goal.heap_word-word-requires-clause-at
heap_word-word-requires-clause-at c =
    let within = scanned_word c.requires.0 c.args.space.now c.args.place c.args.index c.requires.1 c.requires.2 in
    let e = c.field_word.ensures in
    omega (arith, within, e)

pub find-requires-clause-heap : goal.find-requires-clause-heap
find-requires-clause-heap c =
    let due = word_due c.requires.0 c.args.space.now c.args.place c.args.index c.field_word.result c.heap_word-word.result c.requires.1 c.requires.2 c.field_word.ensures c.heap_word-word.ensures c.if-word-ne0.true in
    (due_place c.requires.0 c.args.space.now _ _ _ c.requires.1.stage c.heap_word-word.result due).0

pub find-requires-clause-room : goal.find-requires-clause-room
find-requires-clause-room c =
    let due = word_due c.requires.0 c.args.space.now c.args.place c.args.index c.field_word.result c.heap_word-word.result c.requires.1 c.requires.2 c.field_word.ensures c.heap_word-word.ensures c.if-word-ne0.true in
    due_room c.requires.0 c.args.space.now _ _ _ c.requires.1.stage c.heap_word-word.result due

pub remember_chosen-requires-clause-field : goal.remember_chosen-requires-clause-field
remember_chosen-requires-clause-field c =
    may_remember c.requires.0 c.args.space.now c.find.new.space c.args.place c.args.index c.field_word.result c.heap_word-word.result c.requires.1 c.requires.2 c.field_word.ensures c.heap_word-word.ensures c.if-word-ne0.true c.find.ensures

pub remember_chosen-requires-clause-held : goal.remember_chosen-requires-clause-held
remember_chosen-requires-clause-held c =
    held_within c.requires.0 c.args.space.now c.find.new.space c.args.place c.args.index c.field_word.result c.heap_word-word.result c.requires.1 c.requires.2 c.field_word.ensures c.heap_word-word.ensures c.if-word-ne0.true c.find.ensures

pub remember_chosen-requires-clause-cursor : goal.remember_chosen-requires-clause-cursor
remember_chosen-requires-clause-cursor c =
    counts_on c.requires.0 c.args.space.now c.find.new.space c.args.place c.args.index c.field_word.result c.heap_word-word.result c.requires.1 c.requires.2 c.field_word.ensures c.heap_word-word.ensures c.if-word-ne0.true c.find.ensures

pub returns-then-word-ne0-clause-scans : goal.returns-then-word-ne0-clause-scans
returns-then-word-ne0-clause-scans c = λ before is within.
    passed_over before c.args.space.now c.find.new.space c.args.place c.args.index c.field_word.result c.heap_word-word.result is within c.field_word.ensures c.heap_word-word.ensures c.if-word-ne0.true c.find.ensures
    c.remember_chosen.new.space c.remember_chosen.ensures.tables c.remember_chosen.ensures.space

pub returns-then-word-ne0-clause-to_do : goal.returns-then-word-ne0-clause-to_do
returns-then-word-ne0-clause-to_do c =
    no_more_to_do c.requires.0 c.args.space.now c.find.new.space c.args.place c.args.index c.field_word.result c.heap_word-word.result c.requires.1 c.requires.2 c.field_word.ensures c.heap_word-word.ensures c.if-word-ne0.true
    c.find.ensures c.remember_chosen.new.space c.remember_chosen.ensures.tables c.remember_chosen.ensures.space

pub returns-else-word-ne0-clause-scans : goal.returns-else-word-ne0-clause-scans
returns-else-word-ne0-clause-scans c = λ before is within.
    let holds = scanned_holds before c.args.space.now c.args.place c.args.index c.field_word.result c.heap_word-word.result is within c.field_word.ensures c.heap_word-word.ensures in
    passed_nil before c.args.space.now c.args.place c.args.index c.heap_word-word.result is holds c.if-word-ne0.false
