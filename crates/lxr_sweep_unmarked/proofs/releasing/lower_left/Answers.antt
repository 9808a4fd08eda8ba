use Rattle.std.proofs.Common.{◌≡◌, ◌∙◌, ap, arith}
use Rattle.lxr_layout.specs.Places.{field_word}
use Rattle.lxr_image.specs.Spaces.{tables_of}
use Rattle.lxr_graph.proofs.NameSets.{not_both}
use Rattle.lxr_sweep_unmarked.specs.Releasing.{cascade_of}
use Rattle.lxr_sweep_unmarked.proofs.ReleasingLemmas.{left_none, left_place, left_small, left_waits, released_still}
use Rattle.lxr_sweep_unmarked.proofs.releasing.lower_left.Goals as goal

pub field_word-requires : goal.field_word-requires
field_word-requires c = let h = left_place c.args.space.now c.args.place c.args.index c.requires.0 c.requires.1 c.requires.2 c.requires.3 in (h.0, h.1)

pub heap_word-word-requires : goal.heap_word-word-requires
heap_word-word-requires c =
    let h = left_place c.args.space.now c.args.place c.args.index c.requires.0 c.requires.1 c.requires.2 c.requires.3 in
    let word = c.field_word.ensures in
    record { space = c.requires.3.stage.stage.space; at = omega (arith, h.2, word) }

pub overflow_cast-held : goal.overflow_cast-held
overflow_cast-held c =
    let is : c.heap_word-word.result ≡ (tables_of c.args.space.now).heap (field_word c.args.place.0 c.args.index) =
    c.heap_word-word.ensures ∙ ap (tables_of c.args.space.now).heap c.field_word.ensures in
    let h = left_small c.args.space.now c.args.place c.args.index c.requires.0 c.requires.1 c.requires.2 c.requires.3 c.heap_word-word.result is in
    let b = c.requires.3.stage.stage.space.limits.blocks in
    omega (arith, h, b.1)

pub begins-requires-clause-heap : goal.begins-requires-clause-heap
begins-requires-clause-heap c =
    let is : c.heap_word-word.result ≡ (tables_of c.args.space.now).heap (field_word c.args.place.0 c.args.index) =
    c.heap_word-word.ensures ∙ ap (tables_of c.args.space.now).heap c.field_word.ensures in
    left_small c.args.space.now c.args.place c.args.index c.requires.0 c.requires.1 c.requires.2 c.requires.3 c.heap_word-word.result is

pub lower_place-requires : goal.lower_place-requires
lower_place-requires c =
    let is : c.heap_word-word.result ≡ (tables_of c.args.space.now).heap (field_word c.args.place.0 c.args.index) =
    c.heap_word-word.ensures ∙ ap (tables_of c.args.space.now).heap c.field_word.ensures in
    let w = left_waits c.args.space.now c.args.place c.args.index c.requires.0 c.requires.1 c.requires.2 c.requires.3 c.heap_word-word.result is (c.begins.ensures.0 c.if-begins.true) in
    (cascade_of c.requires.0, w.0, _, w.1)

pub returns-then-begins-clause-reaches : goal.returns-then-begins-clause-reaches
returns-then-begins-clause-reaches c = λ st r rest f.
    let is : c.heap_word-word.result ≡ (tables_of c.args.space.now).heap (field_word c.args.place.0 c.args.index) =
    c.heap_word-word.ensures ∙ ap (tables_of c.args.space.now).heap c.field_word.ensures in
    let w = left_waits c.args.space.now c.args.place c.args.index st r rest f c.heap_word-word.result is (c.begins.ensures.0 c.if-begins.true) in
    let x = c.lower_place.ensures.reaches (cascade_of st) w.0 _ w.1 in
    (x.0, x.1, released_still c.args.space.now c.lower_place.new.space st x.0 x.1 _ c.lower_place.ensures.keeps f.stage x.2)

pub returns-else-begins-clause-reaches : goal.returns-else-begins-clause-reaches
returns-else-begins-clause-reaches c = λ st r rest f.
    let is : c.heap_word-word.result ≡ (tables_of c.args.space.now).heap (field_word c.args.place.0 c.args.index) =
    c.heap_word-word.ensures ∙ ap (tables_of c.args.space.now).heap c.field_word.ensures in
    left_none c.args.space.now c.args.place c.args.index st r rest f c.heap_word-word.result is (λ h. not_both _ (c.begins.ensures.1 h) c.if-begins.false)
