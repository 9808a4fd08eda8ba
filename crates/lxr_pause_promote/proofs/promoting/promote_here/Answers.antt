use Rattle.std.proofs.Common.{◌≡◌, ◌+◌, ◌/◌, sym, ap, subst, ◌∙◌, arith}
use Rattle.lxr_layout.specs.Objects.{FitsShape, word_count}
use Rattle.lxr_layout.specs.Places.{first_word}
use Rattle.lxr_image.specs.Reads.{granule_of}
use Rattle.lxr_image.specs.Spaces.{Turns, tables_of}
use Rattle.lxr_pause_promote.specs.Promotion.{with_marks, with_unlogged}
use Rattle.lxr_pause_promote.proofs.TableLemmas.{is_within, promoted_turns, turned_blocks}
use Rattle.lxr_pause_promote.proofs.promoting.promote_here.Goals as goal

pub words_of-requires : goal.words_of-requires
words_of-requires c = let h = c.requires.2 in subst (λ z. FitsShape z.1) (sym (c.object.ensures c.requires.0 c.requires.1 h)) h.whole.shape

pub mark_lines-requires-clause-heap : goal.mark_lines-requires-clause-heap
mark_lines-requires-clause-heap c =
    let h = is_within c.args.space.now c.args.place c.requires.0 c.requires.1 c.requires.2 in
    let e = c.words_of.ensures ∙ ap (λ z. word_count z.1) (c.object.ensures c.requires.0 c.requires.1 c.requires.2) in
    let l = turned_blocks _ _ _ c.mark_promoted.ensures ∙ turned_blocks _ _ _ c.set_start.ensures in
    let f = h.1 in
    omega (arith, e, l, f)

pub log_references-requires-clause-heap : goal.log_references-requires-clause-heap
log_references-requires-clause-heap c =
    let h = is_within c.args.space.now c.args.place c.requires.0 c.requires.1 c.requires.2 in
    let e = ap (λ z. z.1.refs) (c.object.ensures c.requires.0 c.requires.1 c.requires.2) in
    let l = turned_blocks _ _ _ c.mark_lines.ensures ∙ turned_blocks _ _ _ c.mark_promoted.ensures ∙ turned_blocks _ _ _ c.set_start.ensures in
    let w = c.word_of.ensures in
    let f = h.2 in
    omega (arith, e, l, f, w)

pub returns-clause-promotes : goal.returns-clause-promotes
returns-clause-promotes c = λ n shape h.
    let e = c.object.ensures n shape h in
    let words : c.words_of.result ≡ word_count shape = c.words_of.ensures ∙ ap (λ z. word_count z.1) e in
    let granule = c.granule_of-granule.ensures in
    let marks = subst (λ z. Turns c.mark_promoted.new.space c.mark_lines.new.space (with_marks (tables_of c.mark_promoted.new.space) (granule_of c.args.place.0) (z / 2))) words (rw granule at c.mark_lines.ensures) in
    let first = subst (λ z. Turns c.mark_lines.new.space c.log_references.new.space (with_unlogged (tables_of c.mark_lines.new.space) (z + 1) (z + 1 + c.object.result.1.refs))) c.word_of.ensures c.log_references.ensures in
    let logs = subst (λ z. Turns c.mark_lines.new.space c.log_references.new.space (with_unlogged (tables_of c.mark_lines.new.space) (first_word c.args.place.0 + 1) (first_word c.args.place.0 + 1 + z.1.refs))) e first in
    promoted_turns c.args.space.now c.set_start.new.self c.mark_promoted.new.space c.mark_lines.new.space c.log_references.new.space c.args.place shape (rw granule at c.set_start.ensures) (rw granule at c.mark_promoted.ensures) marks logs
