use Rattle.std.proofs.Common.{◌≡◌, ◌∙◌, ap, arith}
use Rattle.lxr_layout.specs.Places.{field_word}
use Rattle.lxr_image.specs.Spaces.{tables_of}
use Rattle.lxr_pause_decrements.proofs.SpaceLemmas.{at_place, keeps_both, waiting_place}
use Rattle.lxr_pause_decrements.proofs.DrainLemmas.{field_place, gray_reference, grayed_keeps, grayed_to_do, held_reference, nil_reference}
use Rattle.lxr_pause_decrements.proofs.finish.lower_field.Goals as goal

pub field_word-requires : goal.field_word-requires
field_word-requires c =
    let f = c.requires.field in
    let h = field_place c.args.space.now c.args.place c.args.index f.0 f.1 f.3.stage f.3.field in
    (h.0, h.1)

pub heap_word-word-requires : goal.heap_word-word-requires
heap_word-word-requires c =
    let f = c.requires.field in
    let h = field_place c.args.space.now c.args.place c.args.index f.0 f.1 f.3.stage f.3.field in
    let word = c.field_word.ensures in
    record { space = f.3.stage.space; at = omega (arith, h.2, word) }

pub overflow_cast-held : goal.overflow_cast-held
overflow_cast-held c =
    let is : c.heap_word-word.result ≡ (tables_of c.args.space.now).heap (field_word c.args.place.0 c.args.index) =
    c.heap_word-word.ensures ∙ ap (tables_of c.args.space.now).heap c.field_word.ensures in
    let f = c.requires.field in
    let w = held_reference c.args.space.now c.args.place c.args.index c.heap_word-word.result f.0 f.1 f.2 f.3 c.if-word-ne0.true is in
    let h = waiting_place c.args.space.now c.heap_word-word.result _ _ _ w.1 in
    omega (arith, h)

pub make_gray-requires : goal.make_gray-requires
make_gray-requires c =
    let is : c.heap_word-word.result ≡ (tables_of c.args.space.now).heap (field_word c.args.place.0 c.args.index) =
    c.heap_word-word.ensures ∙ ap (tables_of c.args.space.now).heap c.field_word.ensures in
    let f = c.requires.field in
    let w = held_reference c.args.space.now c.args.place c.args.index c.heap_word-word.result f.0 f.1 f.2 f.3 c.if-word-ne0.true is in
    let h = at_place c.args.space.now (record { 0 = c.heap_word-word.result }) _ _ _ w.1 in
    record { space = f.3.stage.space; place = h.0; heap = let k = h.1 in let q = h.0.0 in omega (arith, k, q) }

pub lower_place-requires : goal.lower_place-requires
lower_place-requires c =
    let is : c.heap_word-word.result ≡ (tables_of c.args.space.now).heap (field_word c.args.place.0 c.args.index) =
    c.heap_word-word.ensures ∙ ap (tables_of c.args.space.now).heap c.field_word.ensures in
    let f = c.requires.field in
    let w = gray_reference c.args.space.now c.make_gray.new.space c.args.place c.args.index c.heap_word-word.result c.args.tracing f.0 f.1 f.2 f.3 c.if-word-ne0.true is c.requires.tracing c.make_gray.ensures in
    (_, w.0, _, w.1)

pub returns-then-word-ne0-clause-reaches : goal.returns-then-word-ne0-clause-reaches
returns-then-word-ne0-clause-reaches c = λ st r rest f.
    let is : c.heap_word-word.result ≡ (tables_of c.args.space.now).heap (field_word c.args.place.0 c.args.index) =
    c.heap_word-word.ensures ∙ ap (tables_of c.args.space.now).heap c.field_word.ensures in
    let w = gray_reference c.args.space.now c.make_gray.new.space c.args.place c.args.index c.heap_word-word.result c.args.tracing st r rest f c.if-word-ne0.true is c.requires.tracing c.make_gray.ensures in
    c.lower_place.ensures.reaches _ w.0 _ w.1

pub returns-then-word-ne0-clause-to_do : goal.returns-then-word-ne0-clause-to_do
returns-then-word-ne0-clause-to_do c = c.lower_place.ensures.to_do ∙ grayed_to_do c.args.space.now c.make_gray.new.space c.args.tracing _ c.make_gray.ensures

pub returns-then-word-ne0-clause-keeps : goal.returns-then-word-ne0-clause-keeps
returns-then-word-ne0-clause-keeps c =
    keeps_both c.args.space.now c.make_gray.new.space c.lower_place.new.space (grayed_keeps c.args.space.now c.make_gray.new.space c.args.tracing _ c.make_gray.ensures) c.lower_place.ensures.keeps

pub returns-else-word-ne0-clause-reaches : goal.returns-else-word-ne0-clause-reaches
returns-else-word-ne0-clause-reaches c = λ st r rest f.
    let is : c.heap_word-word.result ≡ (tables_of c.args.space.now).heap (field_word c.args.place.0 c.args.index) =
    c.heap_word-word.ensures ∙ ap (tables_of c.args.space.now).heap c.field_word.ensures in
    nil_reference c.args.space.now c.args.place c.args.index c.heap_word-word.result st r rest f c.if-word-ne0.false is
