-- Cutting a text: a line ends at the first line feed, and a word stands between the blanks around it.
use Rattle.std.proofs.Common.{◌≡◌, ℕ, suc, ◌+◌, ◌-◌, ◌<◌, Bool, true, false, not, cond, List, [], ◌∷◌, length, take, drop, refl, sym, ap, ◌∙◌, arith, filter, nat_eq, ltb, eqb, Some, None, position, get_or, length-drop, length-take, add-one, one-add, drop-cons}
use Rattle.std.proofs.Math.Seq.{drop-length}
use Rattle.std.specs.List.{slice_split, onto_first, position_or_len}
use Rattle.std.specs.Str.Lines.{lines, lines_of_parts, strip_carriage_return}
use Rattle.std.proofs.lemmas.List.Splits.{slice_split_first, slice_split-cons_yes}
use Rattle.std.proofs.lemmas.List.{take_all}
use Rattle.std.proofs.lemmas.List.Sums.{prefix_len-le-length, prefix_len_stops}
use Rattle.std.proofs.lemmas.Option.{cond_some}
use Rattle.std.proofs.lemmas.Bool.{ltb-true, ne_eqb, cond-false, cond-true, not-false}
use Rattle.lxr_text_script.specs.Lines.{Text, is_blank, is_word, words_of}

-- what `position` says where it finds something
pub found_at : (p : ℕ → Bool) (xs : List ℕ) (k : ℕ) → position p xs ≡ Some k → (position_or_len p xs ≡ k) × (k < length xs)
found_at p xs k e =
    let both = cond_some (ltb (position_or_len p xs) (length xs)) (position_or_len p xs) k e in
    let lt : position_or_len p xs < length xs = ltb-true _ _ both.0 in
    (both.1, omega arith)

-- and where it doesn't
none_found : (b : Bool) (n : ℕ) → cond b (Some n) None ≡ None → b ≡ false
none_found true n e = cc
none_found false n e = refl

pub nowhere : (p : ℕ → Bool) (xs : List ℕ) → position p xs ≡ None → position_or_len p xs ≡ length xs
nowhere p xs e =
    let no = none_found (ltb (position_or_len p xs) (length xs)) (position_or_len p xs) e in
    let le = prefix_len-le-length (λ x. not (p x)) xs in
    grind (arith, no, le)

-- where nothing passes, the list is one part
pub one_part : (p : ℕ → Bool) (xs : List ℕ) → position_or_len p xs ≡ length xs → slice_split p xs ≡ xs ∷ []
one_part p [] e = refl
one_part p (x ∷ xs) e = elim (p x) as (λ v. cond (not v) (1 + position_or_len p xs) 0 ≡ suc (length xs) → cond v ([] ∷ slice_split p xs) (onto_first x (slice_split p xs)) ≡ (x ∷ xs) ∷ []) [
  | true ↦ λ h. absurd (omega arith)
  | false ↦ λ h. let same : position_or_len p xs ≡ length xs = omega arith in rw (one_part p xs same) refl
] e

-- a part before others is followed by one
part_first : (x : ℕ) (parts : List (List ℕ)) (line : Text) → lines_of_parts (line ∷ onto_first x parts) ≡ strip_carriage_return line ∷ lines_of_parts (onto_first x parts)
part_first x [] line = refl
part_first x (part ∷ parts) line = refl

-- a line that is cut off is the first
pub lines_cut : (p : ℕ → Bool) (line rest : Text) → lines_of_parts (line ∷ slice_split p rest) ≡ strip_carriage_return line ∷ lines_of_parts (slice_split p rest)
lines_cut p line [] = refl
lines_cut p line (x ∷ xs) = elim (p x) as (λ v. lines_of_parts (line ∷ cond v ([] ∷ slice_split p xs) (onto_first x (slice_split p xs))) ≡ strip_carriage_return line ∷ lines_of_parts (cond v ([] ∷ slice_split p xs) (onto_first x (slice_split p xs)))) [
  | true ↦ refl
  | false ↦ part_first x (slice_split p xs) line
]

last : (text : Text) → 0 < length text → lines_of_parts (text ∷ []) ≡ text ∷ []
last [] long = absurd (omega arith)
last (x ∷ xs) long =
    let no : eqb (length (x ∷ xs)) 0 ≡ false = ne_eqb _ 0 (λ h. absurd (omega arith)) in
    cond-false (eqb (length (x ∷ xs)) 0) [] ((x ∷ xs) ∷ []) no

-- a text without a line feed is one line
pub last_line : (text : Text) → 0 < length text → position (λ b. nat_eq b 10) text ≡ None → lines text ≡ text ∷ []
last_line text long e =
    let one = one_part (λ b. nat_eq b 10) text (nowhere (λ b. nat_eq b 10) text e) in
    ap lines_of_parts one ∙ last text long

-- the first line of another
pub first_line : (text : Text) (end : ℕ) → position (λ b. nat_eq b 10) text ≡ Some end → lines text ≡ strip_carriage_return (take end text) ∷ lines (take (length text - (end + 1)) (drop (end + 1) text))
first_line text end e =
    let is = found_at (λ b. nat_eq b 10) text end e in
    let inside : position_or_len (λ b. nat_eq b 10) text < length text = omega (arith, is.0, is.1) in
    let cut = rw is.0 at (slice_split_first (λ b. nat_eq b 10) text 0 inside) in
    let rest : take (length text - (end + 1)) (drop (end + 1) text) ≡ drop (end + 1) text = take_all _ _ (simp length-drop (omega arith)) in
    ap lines_of_parts cut ∙ rw rest (lines_cut (λ b. nat_eq b 10) (take end text) (drop (end + 1) text))

-- a blank at the front is skipped
blank_first : (b : ℕ) (line : Text) → is_blank b ≡ true → words_of (b ∷ line) ≡ words_of line
unfolding words_of
blank_first b line e = rw (slice_split-cons_yes is_blank b line e) refl

-- blanks at the front are skipped
pub skipped : (line : Text) → words_of line ≡ words_of (drop (position_or_len (λ b. not (is_blank b)) line) line)
skipped [] = refl
skipped (b ∷ line) = elim (is_blank b) as (λ v. is_blank b ≡ v → words_of (b ∷ line) ≡ words_of (drop (cond (not (not v)) (1 + position_or_len (λ b. not (is_blank b)) line) 0) (b ∷ line))) [
  | true ↦ λ h. blank_first b line h ∙ rw one-add (skipped line)
  | false ↦ λ h. refl
] refl

pub all_skipped : (line : Text) → position (λ b. not (is_blank b)) line ≡ None → words_of line ≡ []
unfolding words_of
all_skipped line e =
    let all = nowhere (λ b. not (is_blank b)) line e in
    let front = skipped line in
    front ∙ rw (all, drop-length) refl

one_kept : (line : Text) → 0 < length line → filter is_word (line ∷ []) ≡ line ∷ []
one_kept [] long = absurd (omega arith)
one_kept (b ∷ line) long = refl

pub only_word : (line : Text) → 0 < length line → position is_blank line ≡ None → words_of line ≡ line ∷ []
unfolding words_of
only_word line long e = rw (one_part is_blank line (nowhere is_blank line e)) (one_kept line long)

first_kept : (word : Text) (parts : List Text) → 0 < length word → filter is_word (word ∷ parts) ≡ word ∷ filter is_word parts
first_kept [] parts long = absurd (omega arith)
first_kept (b ∷ word) parts long = refl

pub first_word : (line : Text) (end : ℕ) → position is_blank line ≡ Some end → 0 < end → words_of line ≡ take end line ∷ words_of (take (length line - end) (drop end line))
unfolding words_of
first_word line end e some =
    let is = found_at is_blank line end e in
    let inside : position_or_len is_blank line < length line = omega (arith, is.0, is.1) in
    let cut = rw is.0 at (slice_split_first is_blank line 0 inside) in
    let long : 0 < length (take end line) = simp length-take (omega (arith, is.1)) in
    let rest : take (length line - end) (drop end line) ≡ drop end line = take_all _ _ (simp length-drop (omega arith)) in
    let blank : is_blank (get_or line end 0) ≡ true = not-false _ (rw is.0 at (prefix_len_stops (λ b. not (is_blank b)) line 0 inside)) in
    let behind : drop end line ≡ get_or line end 0 ∷ drop (end + 1) line = rw add-one (drop-cons line end 0 is.1) in
    let tail : words_of (drop end line) ≡ words_of (drop (end + 1) line) = rw behind (blank_first (get_or line end 0) (drop (end + 1) line) blank) in
    rw (cut, rest) (first_kept (take end line) (slice_split is_blank (drop (end + 1) line)) long ∙ ap (λ (ws : List Text). take end line ∷ ws) (sym tail))

-- a word stands at the front of what isn't skipped
in_front : (b : ℕ) (line : Text) → not (is_blank b) ≡ true → 0 < position_or_len is_blank (b ∷ line)
in_front b line e = rw (cond-true (not (is_blank b)) (1 + position_or_len is_blank line) 0 e) (omega arith)

pub word_in_front : (line : Text) (start : ℕ) → position (λ b. not (is_blank b)) line ≡ Some start → 0 < position_or_len is_blank (take (length line - start) (drop start line))
word_in_front line start e =
    let is = found_at (λ b. not (is_blank b)) line start e in
    let inside : position_or_len (λ b. not (is_blank b)) line < length line = omega (arith, is.0, is.1) in
    let seen : not (is_blank (get_or line start 0)) ≡ true = not-false _ (rw is.0 at (prefix_len_stops (λ b. not (not (is_blank b))) line 0 inside)) in
    let rest : take (length line - start) (drop start line) ≡ drop start line = take_all _ _ (simp length-drop (omega arith)) in
    rw (rest, drop-cons line start 0 is.1) (in_front (get_or line start 0) (drop (suc start) line) seen)

-- and the words are those of what isn't skipped
pub words_behind : (line : Text) (start : ℕ) → position (λ b. not (is_blank b)) line ≡ Some start → words_of line ≡ words_of (take (length line - start) (drop start line))
words_behind line start e =
    let is = found_at (λ b. not (is_blank b)) line start e in
    let rest : take (length line - start) (drop start line) ≡ drop start line = take_all _ _ (simp length-drop (omega arith)) in
    rw rest (rw is.0 at (skipped line))
