use Rattle.std.proofs.Common.{◌+◌, ◌*◌, ◌<◌, ◌≤◌, ◌⊎◌, sym, subst, ap, refl, is_some}
use Rattle.lxr_layout.specs.Objects.{FitsShape, word_count}
use Rattle.lxr_layout.specs.Places.{first_word}
use Rattle.lxr_layout.specs.declared.TheConstants.{WORDS_IN_BLOCK}
use Rattle.lxr_image.specs.Spaces.{Turns, tables_of}
use Rattle.lxr_image.specs.Tables.{Tables, changed}
use Rattle.lxr_blocks.specs.Placing.{IsFull, IsPlaced}
use Rattle.lxr_pause_promote.specs.Copying.{IsUsedRow, with_words}
use Rattle.lxr_pause_promote.proofs.CopyLemmas.{copy_has_room, copy_is_used, evacuated_turns}
use Rattle.lxr_pause_promote.proofs.FewerLemmas.{fewer_both, still_short, turns_fewer}
use Rattle.lxr_pause_promote.proofs.copying.young_evacuate_within.Goals as goal

pub place-requires-clause-shape : goal.place-requires-clause-shape
place-requires-clause-shape c = let h = c.requires.kept.2 in subst (λ z. FitsShape z.1) (sym (c.object.ensures c.requires.kept.0 c.requires.kept.1 h.stands)) h.stands.whole.shape

pub copy_words-requires-clause-shape : goal.copy_words-requires-clause-shape
copy_words-requires-clause-shape c = let h = c.requires.kept.2 in subst (λ z. FitsShape z.1) (sym (c.object.ensures c.requires.kept.0 c.requires.kept.1 h.stands)) h.stands.whole.shape

pub returns-in_err-copy-clause-none : goal.returns-in_err-copy-clause-none
returns-in_err-copy-clause-none c = λ n shape is.
    let same = ap (λ z. z.1) (c.object.ensures n shape is.stands) in (
      (λ none. subst (IsFull c.args.space.now) same (c.in_err-copy.ensures.none.0 refl)),
      (λ full. ap is_some c.from_residual.ensures),
    )

pub copy_words-requires-clause-from : goal.copy_words-requires-clause-from
copy_words-requires-clause-from c =
    let e = c.object.ensures c.requires.kept.0 c.requires.kept.1 c.requires.kept.2.stands in
    let placed = subst (λ z. IsPlaced c.args.space.now c.place.new.space z.0 z.1 c.in_ok-copy.copy) e c.in_ok-copy.ensures.placed in
    let room = (copy_has_room c.args.space.now c.place.new.space c.args.place c.in_ok-copy.copy c.requires.kept.0 c.requires.kept.1 c.requires.kept.2 placed).0 in
    subst (λ z. z + word_count c.object.result.1 ≤ WORDS_IN_BLOCK * c.place.new.space.limits.blocks) (sym c.word_of.ensures)
    (subst (λ z. first_word c.args.place.0 + word_count z.1 ≤ WORDS_IN_BLOCK * c.place.new.space.limits.blocks) (sym e) room)

pub copy_words-requires-clause-apart : goal.copy_words-requires-clause-apart
copy_words-requires-clause-apart c =
    let e = c.object.ensures c.requires.kept.0 c.requires.kept.1 c.requires.kept.2.stands in
    let placed = subst (λ z. IsPlaced c.args.space.now c.place.new.space z.0 z.1 c.in_ok-copy.copy) e c.in_ok-copy.ensures.placed in
    let apart = (copy_has_room c.args.space.now c.place.new.space c.args.place c.in_ok-copy.copy c.requires.kept.0 c.requires.kept.1 c.requires.kept.2 placed).1 in
    subst (λ z. (z + word_count c.object.result.1 ≤ c.word_of-2.result) ⊎ (c.word_of-2.result + word_count c.object.result.1 ≤ z)) (sym c.word_of.ensures)
    (subst (λ z. (first_word c.args.place.0 + word_count c.object.result.1 ≤ z) ⊎ (z + word_count c.object.result.1 ≤ first_word c.args.place.0)) (sym c.word_of-2.ensures)
    (subst (λ z. (first_word c.args.place.0 + word_count z.1 ≤ first_word c.in_ok-copy.copy.0) ⊎ (first_word c.in_ok-copy.copy.0 + word_count z.1 ≤ first_word c.args.place.0)) (sym e) apart))

pub copy_words-requires-clause-used : goal.copy_words-requires-clause-used
copy_words-requires-clause-used c = λ fields.
    let e = c.object.ensures c.requires.kept.0 c.requires.kept.1 c.requires.kept.2.stands in
    let placed = subst (λ z. IsPlaced c.args.space.now c.place.new.space z.0 z.1 c.in_ok-copy.copy) e c.in_ok-copy.ensures.placed in
    let t : Tables = tables_of c.place.new.space in
    let used = copy_is_used c.args.space.now c.place.new.space c.args.place c.in_ok-copy.copy c.requires.kept.0 c.requires.kept.1 c.requires.kept.2 placed (subst (λ z. 2 < word_count z.1) e fields) in (
      subst (λ z. IsUsedRow t z (word_count c.object.result.1)) (sym c.word_of.ensures) (subst (λ z. IsUsedRow t (first_word c.args.place.0) (word_count z.1)) (sym e) used.0),
      subst (λ z. IsUsedRow t z (word_count c.object.result.1)) (sym c.word_of-2.ensures) (subst (λ z. IsUsedRow t (first_word c.in_ok-copy.copy.0) (word_count z.1)) (sym e) used.1),
    )

pub returns-clause-none : goal.returns-clause-none
returns-clause-none c = λ n shape is.
    let same = ap (λ z. z.1) (c.object.ensures n shape is.stands) in (
      (λ none. subst (IsFull c.args.space.now) same (c.in_ok-copy.ensures.none.0 none)),
      (λ full. c.in_ok-copy.ensures.none.1 (subst (IsFull c.args.space.now) (sym same) full)),
    )

pub returns-clause-copied : goal.returns-clause-copied
returns-clause-copied c = λ n shape is.
    let e = c.object.ensures n shape is.stands in
    let words = subst (λ z. Turns c.place.new.space c.copy_words.new.space (with_words (tables_of c.place.new.space) z c.word_of-2.result (word_count c.object.result.1))) c.word_of.ensures c.copy_words.ensures in
    let to = subst (λ z. Turns c.place.new.space c.copy_words.new.space (with_words (tables_of c.place.new.space) (first_word c.args.place.0) z (word_count c.object.result.1))) c.word_of-2.ensures words in
    let all = subst (λ z. Turns c.place.new.space c.copy_words.new.space (with_words (tables_of c.place.new.space) (first_word c.args.place.0) (first_word c.in_ok-copy.copy.0) (word_count z.1))) e to in
    let at = subst (λ z. Turns c.copy_words.new.space c.put_heap.new.self (record (tables_of c.copy_words.new.space) { heap = changed (tables_of c.copy_words.new.space).heap z c.pack_moved.result })) c.word_of-3.ensures c.put_heap.ensures in
    let moved = subst (λ z. Turns c.copy_words.new.space c.put_heap.new.self (record (tables_of c.copy_words.new.space) { heap = changed (tables_of c.copy_words.new.space).heap (first_word c.args.place.0) z })) c.pack_moved.ensures.word at in
    record {
      middle = c.place.new.space;
      placed = subst (λ z. IsPlaced c.args.space.now c.place.new.space z.0 z.1 c.in_ok-copy.copy) e c.in_ok-copy.ensures.placed;
      turns = evacuated_turns c.place.new.space c.copy_words.new.space c.put_heap.new.self c.args.place c.in_ok-copy.copy shape all moved;
    }

pub returns-clause-short : goal.returns-clause-short
returns-clause-short c =
    let words = turns_fewer c.place.new.space c.copy_words.new.space _ c.copy_words.ensures refl refl (λ k some. some) in
    let moved = turns_fewer c.copy_words.new.space c.put_heap.new.self _ c.put_heap.ensures refl refl (λ k some. some) in
    still_short c.place.new.space c.put_heap.new.self c.place.new.self (fewer_both c.place.new.space c.copy_words.new.space c.put_heap.new.self words moved) c.in_ok-copy.ensures.short
