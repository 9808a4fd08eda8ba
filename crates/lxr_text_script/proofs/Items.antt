-- Going over the lines of a text: each line is skipped or is the next item.
use Rattle.std.proofs.Common.{◌≡◌, ℕ, ◌+◌, true, false, [], ◌∷◌, length, refl, ap, arith}
use Rattle.std.specs.Str.Lines.{lines}
use Rattle.std.proofs.lemmas.Bool.{cond-true, cond-false}
use Rattle.lxr_text_script.specs.declared.lines.Scanner.{Scanner}
use Rattle.lxr_text_script.specs.Lines.{Text, has_item, items_from, end_from, text_line, words_of}
use Rattle.lxr_text_script.specs.Scanner.{IsSmall, end_left, items_left}

-- what is left is the same, but for lines that are skipped
pub record Keeps (old new : Scanner) : Type 0 where
  pub small : IsSmall new
  pub items : items_left new ≡ items_left old
  pub last : end_left new ≡ end_left old

-- a line that is skipped
pub passed : (n : ℕ) (text line rest : Text) → lines text ≡ line ∷ lines rest → has_item (words_of line) ≡ false → items_from n text ≡ items_from (n + 1) rest
unfolding items_from
passed n text line rest cut skip = rw cut (cond-false (has_item (words_of line)) _ _ skip)

-- a line that isn't
pub taken : (n : ℕ) (text line rest : Text) → lines text ≡ line ∷ lines rest → has_item (words_of line) ≡ true → items_from n text ≡ text_line n line ∷ items_from (n + 1) rest
unfolding items_from
taken n text line rest cut keep = rw cut (cond-true (has_item (words_of line)) _ _ keep)

-- the number after that of the last line stays
pub end_stays : (n : ℕ) (text line rest : Text) → lines text ≡ line ∷ lines rest → end_from (n + 1) rest ≡ end_from n text
end_stays n text line rest cut = let more : length (lines text) ≡ length (line ∷ lines rest) = ap length cut in omega arith

pub no_item : (n : ℕ) (text : Text) → length text ≡ 0 → items_from n text ≡ []
unfolding items_from
no_item n [] e = refl
no_item n (b ∷ text) e = absurd (omega arith)

pub at_end : (n : ℕ) (text : Text) → length text ≡ 0 → n ≡ end_from n text
at_end n [] e = omega arith
at_end n (b ∷ text) e = absurd (omega arith)
