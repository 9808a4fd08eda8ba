-- A text of digits alone is read as `parse` reads it; any other text is no number.
use Rattle.std.proofs.Common.{◌≡◌, ◌∙◌, ◌^◌, ◌<◌, ◌&&◌, OkIff, length, sym, ap, ℕ, [], ◌∷◌, cond, true, false, Some, None, nat_lt, Bool, Result, refl, ltb-true, lt-ltb}
use Rattle.std.specs.Char.{is_ascii_digit}
use Rattle.std.specs.List.{list_all}
use Rattle.std.specs.Str.{all_ascii_digits}
use Rattle.std.specs.Str.Parse.{ParsesUnsigned}
use Rattle.std.proofs.lemmas.Str.Parse.{numerals_by_value, parse_digits, tells_all_ascii_digits}
use Rattle.lxr_words.specs.Number.{Text, number_of, value_of}
use Rattle.lxr_words.proofs.digits.number_in.Goals as goal

same_test : (ds : Text) → list_all is_ascii_digit ds ≡ all_ascii_digits ds
same_test [] = refl
same_test (d ∷ ds) = ap (λ b. is_ascii_digit d && b) (same_test ds)

reads : {E : Type 0} (text : Text) (r : Result ℕ E) → ParsesUnsigned 64 10 text r → list_all is_ascii_digit text ≡ true → OkIff r ((0 < length text) × (value_of text < 2 ^ 64)) (value_of text)
reads text r h e = parse_digits (numerals_by_value (λ ds. all_ascii_digits ds ≡ true) tells_all_ascii_digits) 64 text r h (sym (same_test text) ∙ e)

no_digits : (text : Text) → list_all is_ascii_digit text ≡ false → None ≡ number_of text
no_digits text e = rw e (go (nat_lt 0 (length text)))
  where
    go : (b : Bool) → None ≡ cond (b && false) (Some (value_of text)) None
    go true = refl
    go false = refl

is_read : (text : Text) (n : ℕ) → list_all is_ascii_digit text ≡ true → 0 < length text → value_of text < 2 ^ 64 → n ≡ value_of text → Some n ≡ number_of text
is_read text n e some below is = ap Some is ∙ rw (lt-ltb 0 (length text) some, e, lt-ltb (value_of text) (2 ^ 64) below) refl

not_read : (text : Text) → list_all is_ascii_digit text ≡ true → ((0 < length text) × (value_of text < 2 ^ 64) → ⊥) → None ≡ number_of text
not_read text e none = go (nat_lt 0 (length text)) refl (nat_lt (value_of text) (2 ^ 64)) refl
  where
    go : (a : Bool) → nat_lt 0 (length text) ≡ a → (b : Bool) → nat_lt (value_of text) (2 ^ 64) ≡ b → None ≡ number_of text
    go true p true q = absurd (none (ltb-true 0 (length text) p, ltb-true (value_of text) (2 ^ 64) q))
    go true p false q = rw (p, e, q) refl
    go false p b q = rw p refl

pub returns-then-not-has_only_digits : goal.returns-then-not-has_only_digits
returns-then-not-has_only_digits c = no_digits c.args.text.now (sym c.has_only_digits.ensures ∙ c.if-not-has_only_digits.true)

pub returns-in-Ok : goal.returns-in-Ok
returns-in-Ok c =
    let digits : list_all is_ascii_digit c.args.text.now ≡ true = sym c.has_only_digits.ensures ∙ c.if-not-has_only_digits.false in
    let read = reads c.args.text.now c.parse.result c.parse.ensures.value.0 digits in
    let fact = rw c.in-Ok.is at read in
    is_read c.args.text.now c.in-Ok.number digits fact.0.0 fact.0.1 fact.1

pub returns-in-Err : goal.returns-in-Err
returns-in-Err c =
    let digits : list_all is_ascii_digit c.args.text.now ≡ true = sym c.has_only_digits.ensures ∙ c.if-not-has_only_digits.false in
    let read = reads c.args.text.now c.parse.result c.parse.ensures.value.0 digits in
    let fact = rw c.in-Err.is at read in
    not_read c.args.text.now digits fact
