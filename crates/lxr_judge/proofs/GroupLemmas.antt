-- The lines of a group: where they stand among all lines, as parts of the text.
use Rattle.std.proofs.Common.{◌≡◌, ℕ, zero, suc, ◌+◌, ◌-◌, ◌<◌, ◌≤◌, inl, inr, ◌⊎◌, List, [], ◌∷◌, ◌++◌, Some, None, length, take, drop, map, get_or, refl, sym, ap, ◌∙◌, arith, length-take, length-drop, min, max, append_assoc, append-nil}
use Rattle.std.specs.Prelude.{Option, slice_get, slice_index_or, unwrap_or, codes}
use Rattle.std.specs.Option.{option_map}
use Rattle.std.proofs.lemmas.Bool.{cases_lt}
use Rattle.std.proofs.lemmas.List.{take_all, take-map, drop-map, length-map}
use Rattle.std.proofs.lemmas.Option.{slice_get-map, slice_get_past, slice_get-get_or, unwrap_or-slice_get, none-some, same_Some}
use Rattle.lxr_text_script.specs.Lines.{Text}
use Rattle.lxr_judge_output.specs.declared.gathering.Piece.{Piece}
use Rattle.lxr_judge_output.specs.Form.{Grouped}
use Rattle.lxr_judge_output.specs.Gathering.{piece_in, group_texts}
use Rattle.lxr_judge.specs.Evidence.{begin_of, group}
use Rattle.lxr_judge.specs.Taking.{text_of, with_line}

-- ---- parts of a text

nothing_left : (text : Text) (n : ℕ) → length text ≤ n → drop n text ≡ []
nothing_left [] zero le = refl
nothing_left [] (suc n) le = refl
nothing_left (b ∷ text) zero le = absurd (omega (arith, le))
nothing_left (b ∷ text) (suc n) le = nothing_left text n (omega (arith, le))

take_none : {X : Type 0} (n : ℕ) → take n (let none : List X = [] in none) ≡ []
take_none zero = refl
take_none (suc n) = refl

-- as many items of a list, where both numbers reach equally far
take_as : {X : Type 0} (n m : ℕ) (xs : List X) → (n ≡ m) ⊎ ((length xs ≤ n) × (length xs ≤ m)) → take n xs ≡ take m xs
take_as n m xs far = elim far [
  | inl same ↦ ap (λ (k : ℕ). take k xs) same
  | inr both ↦ take_all n xs both.0 ∙ sym (take_all m xs both.1)
]

-- a part whose places are brought inside the text
pub part_inside : (text : Text) (from to : ℕ)
    → take (min (max to (min from (length text))) (length text) - min from (length text)) (drop (min from (length text)) text) ≡ take (to - from) (drop from text)
part_inside text from to = elim (cases_lt (length text) from) [
  | inl past ↦
      let low : min from (length text) ≡ length text = omega (arith, past) in
      rw (low, nothing_left text (length text) (omega arith), nothing_left text from (omega (arith, past)), take_none (min (max to (length text)) (length text) - length text), take_none (to - from)) refl
  | inr within ↦
      let low : min from (length text) ≡ from = omega (arith, within) in
      let short : length (drop from text) ≡ length text - from = length-drop from text in
      let far : (min (max to from) (length text) - from ≡ to - from) ⊎ ((length (drop from text) ≤ min (max to from) (length text) - from) × (length (drop from text) ≤ to - from)) =
      elim (cases_lt (length text) to) [
        | inl beyond ↦ inr (omega (arith, short, beyond, within), omega (arith, short, beyond, within))
        | inr inside ↦ inl (omega (arith, inside, within))
      ] in
      rw low (take_as (min (max to from) (length text) - from) (to - from) (drop from text) far)
]

-- ---- groups

get_drop : {X : Type 0} (xs : List X) (b k : ℕ) → slice_get (drop b xs) k ≡ slice_get xs (b + k)
get_drop [] zero k = refl
get_drop [] (suc b) k = refl
get_drop (x ∷ xs) zero k = ap (λ (n : ℕ). slice_get (x ∷ xs) n) (let e : k ≡ 0 + k = omega arith in e)
get_drop (x ∷ xs) (suc b) k = get_drop xs b k ∙ ap (λ (n : ℕ). slice_get (x ∷ xs) n) (let e : suc (b + k) ≡ suc b + k = omega arith in e)

get_take : {X : Type 0} (xs : List X) (n k : ℕ) → k < n → slice_get (take n xs) k ≡ slice_get xs k
get_take [] zero k lt = absurd (omega (arith, lt))
get_take [] (suc n) k lt = refl
get_take (x ∷ xs) zero k lt = absurd (omega (arith, lt))
get_take (x ∷ xs) (suc n) zero lt = refl
get_take (x ∷ xs) (suc n) (suc k) lt = get_take xs n k (omega (arith, lt))

get_past : {X : Type 0} (xs : List X) (n k : ℕ) → n ≤ k → slice_get (take n xs) k ≡ None
get_past xs n k le = slice_get_past (take n xs) k (let e = length-take n xs in omega (arith, e, le))

pub line_inside : {T : Type 0} (g : Grouped T) (i at : ℕ) → at < begin_of g (i + 1) - begin_of g i → slice_get (group g i) at ≡ slice_get g.lines (begin_of g i + at)
line_inside g i at lt = get_take (drop (begin_of g i) g.lines) (begin_of g (i + 1) - begin_of g i) at lt ∙ get_drop g.lines (begin_of g i) at

pub line_past : {T : Type 0} (g : Grouped T) (i at : ℕ) → begin_of g (i + 1) - begin_of g i ≤ at → slice_get (group g i) at ≡ None
line_past g i at le = get_past (drop (begin_of g i) g.lines) (begin_of g (i + 1) - begin_of g i) at le

pub group_length : {T : Type 0} (g : Grouped T) (i : ℕ) → length (group g i) ≡ min (begin_of g (i + 1)) (length g.lines) - begin_of g i
group_length g i =
    let a = length-take (begin_of g (i + 1) - begin_of g i) (drop (begin_of g i) g.lines) in
    let b = length-drop (begin_of g i) g.lines in
    omega (arith, a, b)

-- ---- as texts

pub group_of_texts : (text : Text) (g : Grouped Piece) (i : ℕ) → group (group_texts text g) i ≡ map (piece_in text) (group g i)
group_of_texts text g i =
    rw (length-map) (ap (λ (ls : List Text). take (begin_of g (i + 1) - begin_of g i) ls) (drop-map (piece_in text) (begin_of g i) g.lines) ∙ take-map (piece_in text) (begin_of g (i + 1) - begin_of g i) (drop (begin_of g i) g.lines))

pub line_of_text : (text : Text) (g : Grouped Piece) (i at : ℕ) → slice_get (group (group_texts text g) i) at ≡ option_map (piece_in text) (slice_get (group g i) at)
line_of_text text g i at = ap (λ (ls : List Text). slice_get ls at) (group_of_texts text g i) ∙ slice_get-map (piece_in text) (group g i) at

pub length_of_texts : (text : Text) (g : Grouped Piece) (i : ℕ) → length (group (group_texts text g) i) ≡ length (group g i)
length_of_texts text g i = ap length (group_of_texts text g i) ∙ length-map (group g i) (piece_in text)

-- ---- text

past : (lines : List Text) (at : ℕ) → slice_get lines at ≡ None → length lines ≤ at
past lines at none = elim (cases_lt at (length lines)) [
  | inl lt ↦ absurd (none-some (get_or lines at []) (sym none ∙ slice_get-get_or lines at [] lt))
  | inr le ↦ le
]

-- one more line of a text
text_suc : (lines : List Text) (at : ℕ) (line : Text) → slice_get lines at ≡ Some line → text_of (take (suc at) lines) ≡ text_of (take at lines) ++ line ++ codes "\n"
text_suc [] at line e = absurd (none-some line e)
text_suc (l ∷ lines) zero line e =
    let same : l ≡ line = same_Some l line e in
    ap (λ (t : Text). t ++ codes "\n" ++ []) same ∙ append-nil (line ++ codes "\n")
text_suc (l ∷ lines) (suc at) line e =
    let front = l ++ codes "\n" in
    let rest = text_of (take at lines) in
    ap (λ (more : Text). front ++ more) (text_suc lines at line e)
    ∙ (sym (append_assoc front (rest ++ line) (codes "\n")) ∙ ap (λ (more : Text). more ++ codes "\n") (sym (append_assoc front rest line)))

text_more : (lines : List Text) (at : ℕ) (found : Option Text) → slice_get lines at ≡ found → text_of (take (suc at) lines) ≡ with_line (text_of (take at lines)) found
text_more lines at (Some line) e = text_suc lines at line e
text_more lines at None e =
    let end = past lines at e in
    ap text_of (take_all (suc at) lines (omega (arith, end)) ∙ sym (take_all at lines end))

-- a text with the next line is that of one line more
pub text_step : (lines : List Text) (at : ℕ) (old new : Text) → old ≡ text_of (take at lines) → new ≡ with_line old (slice_get lines at) → new ≡ text_of (take (at + 1) lines)
text_step lines at old new before e =
    let next : suc at ≡ at + 1 = omega arith in
    e ∙ (ap (λ (t : Text). with_line t (slice_get lines at)) before ∙ (sym (text_more lines at (slice_get lines at) refl) ∙ ap (λ (n : ℕ). text_of (take n lines)) next))

pub text_whole : (lines : List Text) (at : ℕ) → slice_get lines at ≡ None → text_of (take at lines) ≡ text_of lines
text_whole lines at none = ap text_of (take_all at lines (past lines at none))

-- where a group begins, by what is found there
pub begin_is : (starts : List ℕ) (i n : ℕ) (got : Option ℕ) (len found : ℕ) → got ≡ slice_get starts i → len ≡ n → found ≡ unwrap_or got len → found ≡ slice_index_or starts i n
begin_is starts i n got len found a b e = e ∙ (rw (a, b) (unwrap_or-slice_get starts i n))
