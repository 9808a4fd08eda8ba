-- Plain words: they aren't empty, and their bytes are above '#' and so above blanks and the ends of lines. Lines of
-- plain words are read as they are written.
use Rattle.std.proofs.Common.{◌≡◌, ℕ, ◌+◌, ◌-◌, ◌<◌, ◌≤◌, Bool, true, false, not, ◌&&◌, List, [], ◌∷◌, ◌++◌, length, get_or, refl, ap, ◌∙◌, arith, ltb, leb, eqb, filter, lit<}
use Rattle.std.specs.List.{AllByRecursion, slice_split}
use Rattle.std.specs.Char.{is_ascii_digit}
use Rattle.std.specs.Str.{all_ascii_digits}
use Rattle.std.specs.Str.Lines.{lines, lines_of_parts, strip_carriage_return}
use Rattle.std.proofs.lemmas.Bool.{and_parts, and_from, or_from, ne_eqb, ltb-true, lt-ltb, leb-true, cond-false, not_from_false}
use Rattle.std.proofs.lemmas.List.Elements.{All-from_recursion}
use Rattle.std.proofs.lemmas.List.Splits.{slice_split_at, slice_split_none}
use Rattle.lxr_text_script.specs.Lines.{Text, has_item, is_blank, is_word, items_from, texts, words_of}
use Rattle.lxr_text_script.specs.Spelling.{joined, text_of}
use Rattle.lxr_text_script.proofs.Cutting.{lines_cut}
use Rattle.lxr_text_script.proofs.Items.{taken}

-- bytes above '#'
abbrev pub are_high : Text → Bool
are_high [] = true
are_high (b ∷ bs) = ltb 35 b && are_high bs

abbrev pub is_plain : Text → Bool
is_plain [] = false
is_plain (b ∷ bs) = ltb 35 b && are_high bs

abbrev pub are_plain : List Text → Bool
are_plain [] = true
are_plain (word ∷ words) = is_plain word && are_plain words

-- one plain word or more
abbrev pub is_line : List Text → Bool
is_line [] = false
is_line (word ∷ words) = is_plain word && are_plain words

abbrev pub are_lines : List (List Text) → Bool
are_lines [] = true
are_lines (words ∷ lines) = is_line words && are_lines lines

-- digits are high
pub digits_high : (ds : Text) → all_ascii_digits ds ≡ true → are_high ds ≡ true
digits_high [] e = refl
digits_high (d ∷ ds) e =
    let parts = and_parts (is_ascii_digit d) (all_ascii_digits ds) e in
    let low = leb-true 48 d (and_parts (leb 48 d) (leb d 57) parts.0).0 in
    and_from _ _ (lt-ltb 35 d (omega (arith, low))) (digits_high ds parts.1)

pub plain_high : (word : Text) → is_plain word ≡ true → are_high word ≡ true
plain_high [] e = cc
plain_high (b ∷ bs) e = e

plain_kept : (word : Text) (parts : List Text) → is_plain word ≡ true → filter is_word (word ∷ parts) ≡ word ∷ filter is_word parts
plain_kept [] parts e = cc
plain_kept (b ∷ bs) parts e = refl

no_blank : (word : Text) → are_high word ≡ true → AllByRecursion (λ b. is_blank b ≡ false) word
no_blank [] e = tt
no_blank (b ∷ bs) e =
    let parts = and_parts (ltb 35 b) (are_high bs) e in
    let above = ltb-true 35 b parts.0 in
    (or_from (eqb b 32) (eqb b 9) (ne_eqb b 32 (λ h. absurd (omega (arith, above)))) (ne_eqb b 9 (λ h. absurd (omega (arith, above)))), no_blank bs parts.1)

-- the words of a line of plain words are these
words_are : (words : List Text) → are_plain words ≡ true → words_of (joined words) ≡ words
unfolding words_of
words_are [] e = refl
words_are (word ∷ []) e =
    let plain = (and_parts (is_plain word) true e).0 in
    let one = slice_split_none is_blank word (All-from_recursion (λ b. is_blank b ≡ false) word (no_blank word (plain_high word plain))) in
    rw one (plain_kept word [] plain)
words_are (word ∷ next ∷ words) e =
    let parts = and_parts (is_plain word) (are_plain (next ∷ words)) e in
    let cut = slice_split_at is_blank word 32 (joined (next ∷ words)) (All-from_recursion (λ b. is_blank b ≡ false) word (no_blank word (plain_high word parts.0))) refl in
    rw cut (plain_kept word (slice_split is_blank (joined (next ∷ words))) parts.0 ∙ ap (λ (ws : List Text). word ∷ ws) (words_are (next ∷ words) parts.1))

-- high bytes are none of those below
pub no_byte : (c : ℕ) → c ≤ 35 → (word : Text) → are_high word ≡ true → AllByRecursion (λ b. eqb b c ≡ false) word
no_byte c low [] e = tt
no_byte c low (b ∷ bs) e =
    let parts = and_parts (ltb 35 b) (are_high bs) e in
    let above = ltb-true 35 b parts.0 in
    (ne_eqb b c (λ h. absurd (omega (arith, above, h, low))), no_byte c low bs parts.1)

-- no byte of such a line ends it
abbrev Printed : Text → Type 0
Printed line = AllByRecursion (λ b. 31 < b) line

printed_both : (xs ys : Text) → Printed xs → Printed ys → Printed (xs ++ ys)
printed_both [] ys px py = py
printed_both (x ∷ xs) ys px py = (px.0, printed_both xs ys px.1 py)

high_printed : (word : Text) → are_high word ≡ true → Printed word
high_printed [] e = tt
high_printed (b ∷ bs) e =
    let parts = and_parts (ltb 35 b) (are_high bs) e in
    let above = ltb-true 35 b parts.0 in
    (omega (arith, above), high_printed bs parts.1)

joined_printed : (words : List Text) → are_plain words ≡ true → Printed (joined words)
joined_printed [] e = tt
joined_printed (word ∷ []) e = high_printed word (plain_high word (and_parts (is_plain word) true e).0)
joined_printed (word ∷ next ∷ words) e =
    let parts = and_parts (is_plain word) (are_plain (next ∷ words)) e in
    printed_both word (32 ∷ joined (next ∷ words)) (high_printed word (plain_high word parts.0)) (lit< tt, joined_printed (next ∷ words) parts.1)

no_feed : (line : Text) → Printed line → AllByRecursion (λ b. eqb b 10 ≡ false) line
no_feed [] p = tt
no_feed (b ∷ bs) p = let above = p.0 in (ne_eqb b 10 (λ h. absurd (omega (arith, above))), no_feed bs p.1)

strip_kept : (line : Text) → Printed line → strip_carriage_return line ≡ line
strip_kept [] p = refl
strip_kept (b ∷ bs) p =
    let above = All-from_recursion (λ c. 31 < c) (b ∷ bs) p (length (b ∷ bs) - 1) 0 (omega arith) in
    let other : eqb (get_or (b ∷ bs) (length (b ∷ bs) - 1) 0) 13 ≡ false = ne_eqb _ 13 (λ h. absurd (omega (arith, above, h))) in
    cond-false _ _ _ other

-- such a line is cut off where it stands in front
pub line_off : (words : List Text) (rest : Text) → are_plain words ≡ true → slice_split (λ b. eqb b 10) (joined words ++ 10 ∷ rest) ≡ joined words ∷ slice_split (λ b. eqb b 10) rest
line_off words rest e =
    slice_split_at (λ b. eqb b 10) (joined words) 10 rest (All-from_recursion (λ b. eqb b 10 ≡ false) (joined words) (no_feed (joined words) (joined_printed words e))) refl

-- such a line is the first of a text that begins with it
line_first : (words : List Text) (rest : Text) → are_plain words ≡ true → lines (joined words ++ 10 ∷ rest) ≡ joined words ∷ lines rest
line_first words rest e =
    ap lines_of_parts (line_off words rest e) ∙ lines_cut (λ b. eqb b 10) (joined words) rest ∙ ap (λ (line : Text). line ∷ lines rest) (strip_kept (joined words) (joined_printed words e))

first_no_comment : (word : Text) → is_plain word ≡ true → not (eqb (get_or word 0 0) 35) ≡ true
first_no_comment [] e = cc
first_no_comment (b ∷ bs) e =
    let above = ltb-true 35 b (and_parts (ltb 35 b) (are_high bs) e).0 in
    not_from_false _ (ne_eqb b 35 (λ h. absurd (omega (arith, above))))

line_kept : (words : List Text) → is_line words ≡ true → has_item words ≡ true
line_kept [] e = cc
line_kept (word ∷ words) e = first_no_comment word (and_parts (is_plain word) (are_plain words) e).0

line_plain : (words : List Text) → is_line words ≡ true → are_plain words ≡ true
line_plain [] e = cc
line_plain (word ∷ words) e = e

-- the lines of a text of plain lines are these
pub items_are : (n : ℕ) (all : List (List Text)) → are_lines all ≡ true → texts (items_from n (text_of all)) ≡ all
unfolding items_from
items_are n [] e = refl
items_are n (words ∷ others) e =
    let parts = and_parts (is_line words) (are_lines others) e in
    let plain = line_plain words parts.0 in
    let same = words_are words plain in
    let kept : has_item (words_of (joined words)) ≡ true = rw same (line_kept words parts.0) in
    let first = taken n (text_of (words ∷ others)) (joined words) (text_of others) (line_first words (text_of others) plain) kept in
    ap texts first ∙ rw (same, items_are (n + 1) others parts.1) refl
