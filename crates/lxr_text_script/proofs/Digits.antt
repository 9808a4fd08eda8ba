-- Reading digits from the left gives their value, and stops once the value is no longer below 2^64: it never falls.
use Rattle.std.proofs.Common.{◌≡◌, ℕ, ◌+◌, ◌-◌, ◌*◌, ◌^◌, ◌<◌, ◌≤◌, Bool, true, false, ◌&&◌, cond, [], ◌∷◌, length, drop, refl, sym, ◌∙◌, arith, Option, Some, None, ltb, leb, eqb, lit<, take, get_or, drop-cons, inl, inr}
use Rattle.std.specs.Char.{digit_value, is_ascii_digit}
use Rattle.std.specs.Str.{all_ascii_digits}
use Rattle.std.specs.Str.Parse.{digits_value_after}
use Rattle.std.specs.Option.{option_and_then}
use Rattle.std.proofs.lemmas.Bool.{and_parts, cases_lt, lt-ltb, le-ltb, leb-true, ltb-false, ltb-true, eq-eqb, ne_eqb}
use Rattle.std.proofs.lemmas.List.{take_all, drop_all}
use Rattle.lxr_text_script.specs.Lines.{Text}
use Rattle.lxr_text_script.specs.Numbers.{number_of, register_numbered, register_of}

-- the value with one more digit
abbrev pub one_more : ℕ → ℕ → Option ℕ
one_more n c = cond (is_ascii_digit c && ltb (n * 10 + (c - 48)) (2 ^ 64)) (Some (n * 10 + (c - 48))) None

-- the value with all digits that follow
abbrev pub read_on : ℕ → Text → Option ℕ
read_on n [] = Some n
read_on n (c ∷ cs) = option_and_then (λ m. read_on m cs) (one_more n c)

pub digit_is : (c : ℕ) → is_ascii_digit c ≡ true → digit_value c ≡ c - 48
digit_is c e =
    let both = and_parts (leb 48 c) (leb c 57) e in
    let low : ltb c 48 ≡ false = le-ltb _ _ (leb-true _ _ both.0) in
    let high : ltb c 58 ≡ true = lt-ltb _ _ (let le = leb-true _ _ both.1 in omega (arith, le)) in
    rw (low, high) refl

grows : (n : ℕ) (cs : Text) → n ≤ digits_value_after 10 n cs
grows n [] = omega arith
grows n (c ∷ cs) = let more = grows (n * 10 + digit_value c) cs in omega (arith, more)

-- the value of digits behind n, where it is below 2^64
abbrev pub value_after : ℕ → Text → Option ℕ
value_after n cs = cond (all_ascii_digits cs && ltb (digits_value_after 10 n cs) (2 ^ 64)) (Some (digits_value_after 10 n cs)) None

too_large : (b : Bool) (n : ℕ) (cs : Text) → 2 ^ 64 ≤ n → cond (b && ltb (digits_value_after 10 n cs) (2 ^ 64)) (Some (digits_value_after 10 n cs)) None ≡ None
too_large false n cs le = refl
too_large true n cs le =
    let more = grows n cs in
    let no : ltb (digits_value_after 10 n cs) (2 ^ 64) ≡ false = le-ltb _ _ (omega (arith, more)) in
    rw no refl

pub reads : (n : ℕ) (cs : Text) → n < 2 ^ 64 → read_on n cs ≡ value_after n cs
reads n [] small = let yes : ltb n (2 ^ 64) ≡ true = lt-ltb _ _ small in rw yes refl
reads n (c ∷ cs) small = elim (is_ascii_digit c) as (λ v. is_ascii_digit c ≡ v → option_and_then (λ m. read_on m cs) (cond (v && ltb (n * 10 + (c - 48)) (2 ^ 64)) (Some (n * 10 + (c - 48))) None) ≡ cond ((v && all_ascii_digits cs) && ltb (digits_value_after 10 (n * 10 + digit_value c) cs) (2 ^ 64)) (Some (digits_value_after 10 (n * 10 + digit_value c) cs)) None) [
  | false ↦ λ h. refl
  | true ↦ λ h. rw (digit_is c h) (elim (ltb (n * 10 + (c - 48)) (2 ^ 64)) as (λ w. ltb (n * 10 + (c - 48)) (2 ^ 64) ≡ w → option_and_then (λ k. read_on k cs) (cond w (Some (n * 10 + (c - 48))) None) ≡ value_after (n * 10 + (c - 48)) cs) [
    | true ↦ λ e. reads (n * 10 + (c - 48)) cs (ltb-true _ _ e)
    | false ↦ λ e. sym (too_large (all_ascii_digits cs) (n * 10 + (c - 48)) cs (ltb-false _ _ e))
  ] refl)
] refl

-- a number is a word that isn't empty and is read to its end
pub number_is : (word : Text) → 0 < length word → number_of word ≡ read_on 0 word
unfolding number_of
number_is word long =
    let some : ltb 0 (length word) ≡ true = lt-ltb _ _ long in
    rw (reads 0 word (lit< tt), some) refl

pub no_number : (word : Text) → length word ≡ 0 → number_of word ≡ None
unfolding number_of
no_number [] e = refl
no_number (c ∷ cs) e = absurd (omega arith)

no_more : (b : Bool) (m : ℕ) → ((b ≡ true) × (m < 2 ^ 64) → ⊥) → cond (b && ltb m (2 ^ 64)) (Some m) None ≡ None
no_more false m never = refl
no_more true m never = let large : ltb m (2 ^ 64) ≡ false = le-ltb _ _ (at_least m never) in rw large refl
  where
    at_least : (m : ℕ) → ((true ≡ true) × (m < 2 ^ 64) → ⊥) → 2 ^ 64 ≤ m
    at_least m never = elim (cases_lt m (2 ^ 64)) [ inl lt ↦ absurd (never (refl, lt)) | inr le ↦ le ]

-- a byte that goes no further ends the reading with nothing
pub stops : (n i : ℕ) (word : Text) → i < length word → ((is_ascii_digit (get_or word i 0) ≡ true) × (n * 10 + (get_or word i 0 - 48) < 2 ^ 64) → ⊥) → read_on n (drop i word) ≡ read_on 0 word → None ≡ number_of word
stops n i word lt never so_far =
    let long : 0 < length word = omega arith in
    let here : read_on n (drop i word) ≡ None = rw (drop-cons word i 0 lt, no_more (is_ascii_digit (get_or word i 0)) (n * 10 + (get_or word i 0 - 48)) never) refl in
    sym here ∙ so_far ∙ sym (number_is word long)

-- all bytes are read
pub ends : (n i : ℕ) (word : Text) → 0 < length word → length word ≤ i → read_on n (drop i word) ≡ read_on 0 word → Some n ≡ number_of word
ends n i word long le so_far =
    let none : drop i word ≡ [] = drop_all i word le in
    let here : read_on n (drop i word) ≡ Some n = rw none refl in
    sym here ∙ so_far ∙ sym (number_is word long)

pub is_register : (word : Text) → 0 < length word → get_or word 0 0 ≡ 114 → register_of word ≡ option_and_then register_numbered (number_of (take (length word - 1) (drop 1 word)))
unfolding register_of
is_register [] long first = absurd (omega arith)
is_register (b ∷ digits) long first =
    let yes : eqb b 114 ≡ true = eq-eqb _ _ first in
    let rest : take (length (b ∷ digits) - 1) digits ≡ digits = take_all _ _ (omega arith) in
    rw (yes, rest) refl

pub no_register : (word : Text) → (0 < length word → get_or word 0 0 ≡ 114 → ⊥) → register_of word ≡ None
unfolding register_of
no_register [] e = refl
no_register (b ∷ digits) e =
    let no : eqb b 114 ≡ false = ne_eqb _ _ (λ h. e (omega arith) h) in
    rw no refl
