use Rattle.std.proofs.Common.{◌≡◌, ◌∙◌, ap, arith}
use Rattle.lxr_layout.specs.Places.{field_word}
use Rattle.lxr_image.specs.Spaces.{tables_of}
use Rattle.lxr_pause_decrements.proofs.SpaceLemmas.{keeps_none}
use Rattle.lxr_pause_decrements.proofs.DrainLemmas.{field_place}
use Rattle.lxr_pause_decrements.proofs.DropLemmas.{entry_small, held_look, nil_look}
use Rattle.lxr_pause_decrements.proofs.dropped.reclaim_field.Goals as goal

pub field_word-requires : goal.field_word-requires
field_word-requires c =
    let f = c.requires in
    let h = field_place c.args.space.now c.args.place c.args.index f.0 f.1 f.3.looking.stage f.3.field in
    (h.0, h.1)

pub heap_word-word-requires : goal.heap_word-word-requires
heap_word-word-requires c =
    let f = c.requires in
    let h = field_place c.args.space.now c.args.place c.args.index f.0 f.1 f.3.looking.stage f.3.field in
    let word = c.field_word.ensures in
    record { space = f.3.looking.stage.space; at = omega (arith, h.2, word) }

pub overflow_cast-word : goal.overflow_cast-word
overflow_cast-word c =
    let is : c.heap_word-word.result ≡ (tables_of c.args.space.now).heap (field_word c.args.place.0 c.args.index) =
    c.heap_word-word.ensures ∙ ap (tables_of c.args.space.now).heap c.field_word.ensures in
    let f = c.requires in
    let w = held_look c.args.space.now c.args.place c.args.index c.args.floor c.heap_word-word.result f.0 f.1 f.2 f.3 c.if-word-ne0.true is in
    let h = entry_small c.args.space.now c.heap_word-word.result c.args.floor _ _ _ w.1 in
    omega (arith, h)

pub reclaim_dropped-requires : goal.reclaim_dropped-requires
reclaim_dropped-requires c =
    let is : c.heap_word-word.result ≡ (tables_of c.args.space.now).heap (field_word c.args.place.0 c.args.index) =
    c.heap_word-word.ensures ∙ ap (tables_of c.args.space.now).heap c.field_word.ensures in
    let f = c.requires in
    let w = held_look c.args.space.now c.args.place c.args.index c.args.floor c.heap_word-word.result f.0 f.1 f.2 f.3 c.if-word-ne0.true is in
    (f.0, w.0, _, w.1)

pub returns-then-word-ne0-clause-drops : goal.returns-then-word-ne0-clause-drops
returns-then-word-ne0-clause-drops c = λ st r rest f.
    let is : c.heap_word-word.result ≡ (tables_of c.args.space.now).heap (field_word c.args.place.0 c.args.index) =
    c.heap_word-word.ensures ∙ ap (tables_of c.args.space.now).heap c.field_word.ensures in
    let w = held_look c.args.space.now c.args.place c.args.index c.args.floor c.heap_word-word.result st r rest f c.if-word-ne0.true is in
    c.reclaim_dropped.ensures.drops st w.0 _ w.1

pub returns-else-word-ne0-clause-drops : goal.returns-else-word-ne0-clause-drops
returns-else-word-ne0-clause-drops c = λ st r rest f.
    let is : c.heap_word-word.result ≡ (tables_of c.args.space.now).heap (field_word c.args.place.0 c.args.index) =
    c.heap_word-word.ensures ∙ ap (tables_of c.args.space.now).heap c.field_word.ensures in
    nil_look c.args.space.now c.args.place c.args.index c.args.floor c.heap_word-word.result st r rest f c.if-word-ne0.false is

pub returns-else-word-ne0-clause-keeps : goal.returns-else-word-ne0-clause-keeps
returns-else-word-ne0-clause-keeps c = keeps_none c.args.space.now
