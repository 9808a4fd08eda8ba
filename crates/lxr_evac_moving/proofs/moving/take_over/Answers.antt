use Rattle.std.proofs.Common.{◌≡◌, ◌+◌, ◌/◌, ap, subst, sym, ◌∙◌, arith}
use Rattle.lxr_layout.specs.Objects.{FitsShape, word_count}
use Rattle.lxr_layout.specs.Places.{first_word}
use Rattle.lxr_image.specs.Reads.{granule_of}
use Rattle.lxr_image.specs.Spaces.{Turns, tables_of}
use Rattle.lxr_image.specs.Tables.{changed}
use Rattle.lxr_pause_promote.specs.Promotion.{with_marks, with_unlogged}
use Rattle.lxr_pause_promote.proofs.TableLemmas.{is_within, turned_blocks}
use Rattle.lxr_evac_moving.proofs.TakenOverLemmas.{taken_over_turns}
use Rattle.lxr_evac_moving.proofs.moving.take_over.Goals as goal

pub words_of-requires : goal.words_of-requires
words_of-requires c = let h = c.requires.stands.2 in subst (λ z. FitsShape z.1) (sym (c.object.ensures c.requires.stands.0 c.requires.stands.1 h)) h.whole.shape

pub mark_lines-requires-clause-heap : goal.mark_lines-requires-clause-heap
mark_lines-requires-clause-heap c =
    let n = c.requires.stands.0 in
    let shape = c.requires.stands.1 in
    let h = is_within c.args.space.now c.args.new n shape c.requires.stands.2 in
    let e = c.words_of.ensures ∙ ap (λ z. word_count z.1) (c.object.ensures n shape c.requires.stands.2) in
    let l = turned_blocks _ _ _ c.set_count.ensures ∙ turned_blocks _ _ _ c.take_gray.ensures ∙ turned_blocks _ _ _ c.take_mark.ensures ∙ turned_blocks _ _ _ c.set_start.ensures in
    let f = h.1 in
    omega (arith, e, l, f)

pub log_references-requires-clause-heap : goal.log_references-requires-clause-heap
log_references-requires-clause-heap c =
    let n = c.requires.stands.0 in
    let shape = c.requires.stands.1 in
    let h = is_within c.args.space.now c.args.new n shape c.requires.stands.2 in
    let e = ap (λ z. z.1.refs) (c.object.ensures n shape c.requires.stands.2) in
    let l = turned_blocks _ _ _ c.mark_lines.ensures ∙ turned_blocks _ _ _ c.set_count.ensures ∙ turned_blocks _ _ _ c.take_gray.ensures ∙ turned_blocks _ _ _ c.take_mark.ensures
    ∙ turned_blocks _ _ _ c.set_start.ensures in
    let w = c.word_of.ensures in
    let f = h.2 in
    omega (arith, e, l, f, w)

pub returns : goal.returns
returns c = λ n shape h.
    let e = c.object.ensures n shape h in
    let words : c.words_of.result ≡ word_count shape = c.words_of.ensures ∙ ap (λ z. word_count z.1) e in
    let t = tables_of c.take_gray.new.space in
    let from = c.granule_of-from.ensures in
    let to = c.granule_of-to.ensures in
    let count = subst (λ z. Turns c.take_gray.new.space c.set_count.new.self (record t { counts = changed t.counts (granule_of c.args.new.0) z })) (rw from at c.count-count.ensures.value) (rw to at c.set_count.ensures) in
    let marks = subst (λ z. Turns c.set_count.new.self c.mark_lines.new.space (with_marks (tables_of c.set_count.new.self) (granule_of c.args.new.0) (z / 2))) words (rw to at c.mark_lines.ensures) in
    let first = subst (λ z. Turns c.mark_lines.new.space c.log_references.new.space (with_unlogged (tables_of c.mark_lines.new.space) (z + 1) (z + 1 + c.object.result.1.refs))) c.word_of.ensures c.log_references.ensures in
    let logs = subst (λ z. Turns c.mark_lines.new.space c.log_references.new.space (with_unlogged (tables_of c.mark_lines.new.space) (first_word c.args.new.0 + 1) (first_word c.args.new.0 + 1 + z.1.refs))) e first in
    taken_over_turns c.args.space.now c.set_start.new.self c.take_mark.new.space c.take_gray.new.space c.set_count.new.self c.mark_lines.new.space c.log_references.new.space c.args.old c.args.new shape
    (rw to at c.set_start.ensures) (rw from at (rw to at c.take_mark.ensures)) (rw from at (rw to at c.take_gray.ensures)) count marks logs
