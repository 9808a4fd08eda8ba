-- The words of a line: there is always one, and the first ends at the first space.
use Rattle.std.proofs.Common.{◌≡◌, ℕ, ◌+◌, ◌-◌, ◌<◌, ◌≤◌, Bool, true, false, ◌&&◌, cond, List, [], ◌∷◌, Option, Some, None, length, take, drop, refl, ap, ◌∙◌, arith, position, length-take, length-drop}
use Rattle.std.specs.List.{list_all, slice_split, onto_first, position_or_len}
use Rattle.std.proofs.lemmas.List.Splits.{slice_split_first}
use Rattle.std.proofs.lemmas.List.{take_all, drop_all}
use Rattle.std.specs.Option.{MatchOption}
use denote.Ref.{Bor}
use Rattle.lxr_text_script.specs.Lines.{Text}
use Rattle.lxr_text_script.proofs.Cutting.{found_at, nowhere, one_part}
use Rattle.lxr_judge_output.specs.Lines.{fields_of, is_space, single_of}
use Rattle.lxr_judge_output.specs.Words.{is_dot, is_name, is_numeral}

-- a line without a space is one word
pub only_field : (line : Text) → position is_space line ≡ None → fields_of line ≡ line ∷ []
unfolding fields_of
only_field line e = one_part is_space line (nowhere is_space line e)

-- the first word of another, and what is behind its space
pub first_field : (line : Text) (end : ℕ) → position is_space line ≡ Some end → fields_of line ≡ take end line ∷ fields_of (take (length line - (end + 1)) (drop (end + 1) line))
unfolding fields_of
first_field line end e =
    let is = found_at is_space line end e in
    let inside : position_or_len is_space line < length line = omega (arith, is.0, is.1) in
    let cut = rw is.0 at (slice_split_first is_space line 0 inside) in
    let rest : take (length line - (end + 1)) (drop (end + 1) line) ≡ drop (end + 1) line = take_all _ _ (simp length-drop (omega arith)) in
    rw rest cut

-- which is shorter
pub behind_is_shorter : (line : Text) (end : ℕ) → position is_space line ≡ Some end → length (take (length line - (end + 1)) (drop (end + 1) line)) < length line
behind_is_shorter line end e =
    let is = found_at is_space line end e in
    simp (length-take, length-drop) (omega (arith, is.1))

-- there is a first word
single_onto : (word : Text) (b : ℕ) (parts : List Text) → single_of (word ∷ onto_first b parts) ≡ None
single_onto word b [] = refl
single_onto word b (part ∷ parts) = refl

-- so two words aren't one
pub not_single : (word rest : Text) → single_of (word ∷ fields_of rest) ≡ None
unfolding fields_of
not_single word [] = refl
not_single word (b ∷ rest) = elim (is_space b) as (λ v. single_of (word ∷ cond v ([] ∷ slice_split is_space rest) (onto_first b (slice_split is_space rest))) ≡ None) [
  | true ↦ refl
  | false ↦ single_onto word b (slice_split is_space rest)
]

-- the words so far are names, and so many; what is left has the others
pub record NamesOn (line left : Text) (count : ℕ) : Type 0 where
  pub names : list_all is_name (fields_of line) ≡ list_all is_name (fields_of left)
  pub lengths : length (fields_of line) + 1 ≡ count + length (fields_of left)
  pub small : count + length left ≤ length line + 1

pub one_name : (line left : Text) (count end : ℕ) → position is_space left ≡ Some end → is_name (take end left) ≡ true → NamesOn line left count → NamesOn line (take (length left - (end + 1)) (drop (end + 1) left)) (count + 1)
one_name line left count end e name on =
    let first = first_field left end e in
    let is = found_at is_space left end e in
    let rest = take (length left - (end + 1)) (drop (end + 1) left) in
    let names : list_all is_name (fields_of left) ≡ list_all is_name (fields_of rest) = rw (first, name) refl in
    let lengths : length (fields_of left) ≡ length (take end left ∷ fields_of rest) = ap length first in
    let short : length rest ≤ length left - (end + 1) = simp (length-take, length-drop) (omega arith) in
    record {
      names = on.names ∙ names;
      lengths = omega (arith, on.lengths, lengths);
      small = omega (arith, on.small, short, is.1);
    }

pub no_name : (line left : Text) (count end : ℕ) → position is_space left ≡ Some end → is_name (take end left) ≡ false → NamesOn line left count → list_all is_name (fields_of line) ≡ false
no_name line left count end e other on =
    let names : list_all is_name (fields_of left) ≡ false = rw (first_field left end e, other) refl in
    on.names ∙ names

pub last_name : (line left : Text) (count : ℕ) → position is_space left ≡ None → is_name left ≡ true → NamesOn line left count → (list_all is_name (fields_of line) ≡ true) × (count ≡ length (fields_of line))
last_name line left count e name on =
    let only = only_field left e in
    let names : list_all is_name (fields_of left) ≡ true = rw (only, name) refl in
    let one : length (fields_of left) ≡ length (left ∷ []) = ap length only in
    (on.names ∙ names, omega (arith, on.lengths, one))

pub no_last_name : (line left : Text) (count : ℕ) → position is_space left ≡ None → is_name left ≡ false → NamesOn line left count → list_all is_name (fields_of line) ≡ false
no_last_name line left count e other on =
    let names : list_all is_name (fields_of left) ≡ false = rw (only_field left e, other) refl in
    on.names ∙ names

-- a word without a dot is no name
nothing_behind : (b : Bool) → (b && is_numeral []) ≡ false
unfolding is_numeral
nothing_behind true = refl
nothing_behind false = refl

pub no_dot : (word : Text) → position is_dot word ≡ None → is_name word ≡ false
unfolding is_name
no_dot word e =
    let none : position_or_len is_dot word ≡ length word = nowhere is_dot word e in
    let past : drop (position_or_len is_dot word + 1) word ≡ [] = drop_all (position_or_len is_dot word + 1) word (omega (arith, none)) in
    rw past (nothing_behind (is_numeral (take (position_or_len is_dot word) word)))

-- a line of which something is left behind its first word has more than one
pub split_is_not_single : (line word : Text) (behind : Option (Bor (List ℕ))) (rest : Bor (List ℕ)) → behind ≡ Some rest
    → MatchOption behind (fields_of line ≡ word ∷ []) (λ r. (fields_of line ≡ word ∷ fields_of r.now) × (length r.now < length line)) → single_of (fields_of line) ≡ None
split_is_not_single line word None rest e m = cc
split_is_not_single line word (Some r) rest e m = rw m.0 (not_single word r.now)
