use Rattle.std.proofs.Common.{◌≡◌, ◌<◌, ℕ, sym, ◌∙◌, length, arith, not, position, Some, take, length-take}
use Rattle.std.specs.List.{position_or_len}
use Rattle.std.proofs.lemmas.List.Sums.{prefix_len-le-length}
use Rattle.lxr_text_script.specs.Lines.{Text, is_blank, words_of}
use Rattle.lxr_text_script.proofs.Cutting.{only_word, first_word, found_at}
use Rattle.lxr_text_script.proofs.lines.front_word.Goals as goal

long : goal.returns-in-None-clause-word
long c = let le = prefix_len-le-length (λ b. not (is_blank b)) c.args.line.now in omega (arith, le, c.requires)

pub returns-in-None-clause-word : goal.returns-in-None-clause-word
returns-in-None-clause-word c = long c

pub returns-in-None-clause-words : goal.returns-in-None-clause-words
unfolding words_of
returns-in-None-clause-words c = only_word c.args.line.now (long c) (sym c.word_end.ensures ∙ c.in-None.is)

some : (end : ℕ) (line : Text) → position is_blank line ≡ Some end → 0 < position_or_len is_blank line → (0 < end) × (0 < length (take end line))
some end line e long =
    let is = found_at is_blank line end e in
    let first : 0 < end = omega (arith, is.0, long) in
    (first, simp length-take (omega (arith, is.1)))

pub returns-in-Some-clause-word : goal.returns-in-Some-clause-word
returns-in-Some-clause-word c = (some c.in-Some.end c.args.line.now (sym c.word_end.ensures ∙ c.in-Some.is) c.requires).1

pub returns-in-Some-clause-words : goal.returns-in-Some-clause-words
returns-in-Some-clause-words c =
    let e = sym c.word_end.ensures ∙ c.in-Some.is in
    first_word c.args.line.now c.in-Some.end e (some c.in-Some.end c.args.line.now e c.requires).0
