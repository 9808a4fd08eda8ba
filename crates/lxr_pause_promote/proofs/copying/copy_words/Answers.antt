use Rattle.std.proofs.Common.{ℕ, ◌+◌, ◌*◌, ◌<◌, ◌≤◌, ap, inl, inr, subst, sym, arith, refl}
use Rattle.lxr_layout.specs.Objects.{word_count}
use Rattle.lxr_layout.specs.declared.TheConstants.{WORDS_IN_BLOCK}
use Rattle.lxr_image.specs.Spaces.{tables_of}
use Rattle.lxr_pause_promote.proofs.WordLemmas.{in_used_row, word_left}
use Rattle.lxr_pause_promote.proofs.copying.copy_words.Goals as goal

pub used_word-word-requires-clause-used : goal.used_word-word-requires-clause-used
used_word-word-requires-clause-used c =
    let is = c.loop-behind.invariant in
    let t = tables_of c.args.space.now in
    let words : ℕ = word_count c.args.shape in
    let within : c.loop-behind.behind < words = omega arith in
    let row = (c.requires.used (omega (arith, within))).0 in
    let left = word_left t c.args.from c.args.to c.loop-behind.behind c.args.from (elim c.requires.apart [ inl h ↦ inl (omega (arith, h, within)) | inr h ↦ inr (omega (arith, h, within)) ]) in
    in_used_row c.args.space.now c.loop-behind.space _ c.args.from words c.loop-behind.behind is.turns left row within c.requires.from

pub put_used-requires-clause-used : goal.put_used-requires-clause-used
put_used-requires-clause-used c =
    let is = c.loop-behind.invariant in
    let t = tables_of c.args.space.now in
    let words : ℕ = word_count c.args.shape in
    let within : c.loop-behind.behind < words = omega arith in
    let row = (c.requires.used (omega (arith, within))).1 in
    in_used_row c.args.space.now c.loop-behind.space _ c.args.to words c.loop-behind.behind is.turns
    (word_left t c.args.from c.args.to c.loop-behind.behind c.args.to (inl (omega arith))) row within c.requires.to
