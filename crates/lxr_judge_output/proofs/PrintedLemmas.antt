-- What is printed has the form: numbers in decimal are numerals, two with a dot between them are a name, and the fields of plain words with
-- single spaces between them are these words.
use Rattle.std.proofs.Common.{◌≡◌, ℕ, zero, suc, ◌+◌, ◌<◌, ◌^◌, true, false, not, List, [], ◌∷◌, ◌++◌, length, get_or, take, drop, refl, ap, ◌∙◌, arith, codes, decimal, eqb, leb, length-append}
use Rattle.std.proofs.Math.ListN.{get_or-append}
use Rattle.std.proofs.Math.Seq.{get_or-append_seam, take-append_seam, drop-append-add}
use Rattle.std.specs.Char.{is_ascii_digit}
use Rattle.std.specs.List.{AllByRecursion, list_all, slice_split, position_or_len, before_first, after_first}
use Rattle.std.specs.Str.{all_ascii_digits}
use Rattle.std.proofs.lemmas.Bool.{and_parts, and_from, ne_eqb, eq-eqb, leb-true, not_from_false, or_right}
use Rattle.std.proofs.lemmas.Fmt.{decimal_digit, first_decimal, digits_decimal}
use Rattle.std.proofs.lemmas.List.Elements.{All-from_recursion}
use Rattle.std.proofs.lemmas.List.Splits.{slice_split_at, slice_split_none}
use Rattle.std.proofs.lemmas.List.Sums.{position_or_len_is}
use Rattle.lxr_text_script.specs.Lines.{Text}
use Rattle.lxr_text_script.specs.Spelling.{joined}
use Rattle.lxr_text_script.proofs.Canonical.{digits_of_number, number_written}
use Rattle.lxr_text_script.proofs.Plain.{are_plain, is_plain, no_byte, plain_high}
use Rattle.lxr_text_script.proofs.Spelled.{number_is}
use Rattle.lxr_judge_output.specs.Lines.{fields_of, is_number, is_space}
use Rattle.lxr_judge_output.specs.Words.{is_dot, is_name, is_numeral}

-- ---- fields

no_space : (word : Text) → is_plain word ≡ true → AllByRecursion (λ b. is_space b ≡ false) word
no_space word e = no_byte 32 (omega arith) word (plain_high word e)

-- the fields of plain words with one space between them are these words, where there is one
pub fields_are : (word : Text) (words : List Text) → are_plain (word ∷ words) ≡ true → fields_of (joined (word ∷ words)) ≡ word ∷ words
unfolding fields_of
fields_are word [] e =
    slice_split_none is_space word (All-from_recursion (λ b. is_space b ≡ false) word (no_space word (and_parts (is_plain word) true e).0))
fields_are word (next ∷ words) e =
    let parts = and_parts (is_plain word) (are_plain (next ∷ words)) e in
    slice_split_at is_space word 32 (joined (next ∷ words)) (All-from_recursion (λ b. is_space b ≡ false) word (no_space word parts.0)) refl
    ∙ ap (λ (ws : List Text). word ∷ ws) (fields_are next words parts.1)

-- ---- numbers

all_digits : (ds : Text) → all_ascii_digits ds ≡ true → list_all is_ascii_digit ds ≡ true
all_digits [] e = refl
all_digits (d ∷ ds) e = let parts = and_parts (is_ascii_digit d) (all_ascii_digits ds) e in and_from _ _ parts.0 (all_digits ds parts.1)

decimal_digits : (n : ℕ) → n < 2 ^ 64 → all_ascii_digits (decimal n) ≡ true
decimal_digits n small = digits_decimal digits_of_number n small

-- digits are a numeral where the first of them is no zero
numeral_from : (ds : Text) → all_ascii_digits ds ≡ true → 48 < get_or ds 0 0 → is_numeral ds ≡ true
unfolding is_numeral
numeral_from [] digits above = absurd (omega (arith, above))
numeral_from (d ∷ ds) digits above =
    let other : not (eqb d 48) ≡ true = not_from_false _ (ne_eqb d 48 (λ h. absurd (omega (arith, above, h)))) in
    and_from _ _ (all_digits (d ∷ ds) digits) (or_right (eqb (length ds) 0) (not (eqb d 48)) other)

zero_numeral : is_numeral (48 ∷ []) ≡ true
unfolding is_numeral
zero_numeral = refl

-- a number in decimal is a numeral
pub decimal_numeral : (n : ℕ) → n < 2 ^ 64 → is_numeral (decimal n) ≡ true
decimal_numeral zero small = rw (decimal_digit 0 (omega arith)) zero_numeral
decimal_numeral (suc n) small = numeral_from (decimal (suc n)) (decimal_digits (suc n) small) (first_decimal (suc n) (omega arith) small)

-- and it is this number
pub decimal_number : (n : ℕ) → n < 2 ^ 64 → is_number n (decimal n) ≡ true
decimal_number n small = rw (decimal_numeral n small, number_is (number_written n small)) (eq-eqb n n refl)

-- ---- names

undotted : (ds : Text) → all_ascii_digits ds ≡ true → AllByRecursion (λ b. is_dot b ≡ false) ds
undotted [] e = tt
undotted (d ∷ ds) e =
    let parts = and_parts (is_ascii_digit d) (all_ascii_digits ds) e in
    let low = leb-true 48 d (and_parts (leb 48 d) (leb d 57) parts.0).0 in
    (ne_eqb d 46 (λ h. absurd (omega (arith, low, h))), undotted ds parts.1)

-- what stands in front of the first dot, and what behind it
dot_at : (front behind : Text) → AllByRecursion (λ b. is_dot b ≡ false) front → position_or_len is_dot (front ++ 46 ∷ behind) ≡ length front
dot_at front behind none =
    let whole = front ++ 46 ∷ behind in
    let size = length-append front (46 ∷ behind) in
    let before = All-from_recursion (λ b. is_dot b ≡ false) front none in
    let seam : get_or whole (length front) 0 ≡ 46 = get_or-append_seam front 46 behind 0 in
    position_or_len_is is_dot whole (length front) 0 (omega (arith, size))
    (λ k lt. ap is_dot (get_or-append front (46 ∷ behind) 0 k lt) ∙ before k 0 lt)
    (λ lt. ap is_dot seam)

pub decimal_name : (t s : ℕ) → t < 2 ^ 64 → s < 2 ^ 64 → is_name (decimal t ++ (codes "." ++ decimal s)) ≡ true
unfolding is_name
decimal_name t s low small =
    let at = dot_at (decimal t) (decimal s) (undotted (decimal t) (decimal_digits t low)) in
    let whole = decimal t ++ 46 ∷ decimal s in
    let front : before_first is_dot whole ≡ decimal t = ap (λ (n : ℕ). take n whole) at ∙ take-append_seam (decimal t) (46 ∷ decimal s) in
    let behind : after_first is_dot whole ≡ decimal s =
    ap (λ (n : ℕ). drop (n + 1) whole) at ∙ (drop-append-add (decimal t) (46 ∷ decimal s) 1 ∙ drop_one 46 (decimal s)) in
    and_from _ _ (ap is_numeral front ∙ decimal_numeral t low) (ap is_numeral behind ∙ decimal_numeral s small)
  where
    drop_one : (b : ℕ) (bs : Text) → drop 1 (b ∷ bs) ≡ bs
    drop_one b bs = refl
