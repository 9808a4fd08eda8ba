-- Registers that hold nothing: which are so behind a write, and what a list is from there on.
use Rattle.std.proofs.Common.{◌≡◌, ℕ, zero, suc, ◌+◌, ◌-◌, ◌<◌, ◌≤◌, ◌++◌, List, [], ◌∷◌, length, arith, refl, sym, ap, ◌∙◌}
use Rattle.std.specs.Prelude.{drop, replicate, slice_index_or, slice_set, take}
use Rattle.std.proofs.lemmas.List.{ext_get_or, get_or-drop, get_or-set_other, length-drop, length-replicate, take-append-drop}
use Rattle.lxr_layout.specs.declared.Place.{Place}
use Rattle.lxr_layout.specs.Registers.{AreNil, held_at, nil}

-- fewer of them are so
pub nil_within : (places : List Place) (from end first last : ℕ) → from ≤ first → last ≤ end → AreNil places from end → AreNil places first last
nil_within places from end first last low high are k above below = are k (omega (arith, low, above)) (omega (arith, high, below))

-- those behind one that is written to stay so
pub nil_set : (places : List Place) (r : ℕ) (place : Place) (from end : ℕ) → r < from → AreNil places from end → AreNil (slice_set places r place) from end
nil_set places r place from end before are k above below = get_or-set_other places r k place nil (λ e. omega (arith, e, before, above)) ∙ are k above below

-- registers that were all cleared are nil, and so are those past the last
pub held_cleared : (n k : ℕ) → held_at (replicate n nil) k ≡ nil
held_cleared zero k = refl
held_cleared (suc n) zero = refl
held_cleared (suc n) (suc k) = held_cleared n k

-- from a register on, behind which all are nil
pub drop_nil : (places : List Place) (n : ℕ) → AreNil places n (length places) → drop n places ≡ replicate (length places - n) nil
drop_nil places n are =
    let dropped = length-drop n places in
    let cleared = length-replicate (length places - n) nil in
    ext_get_or nil (drop n places) (replicate (length places - n) nil) (dropped ∙ sym cleared)
    (λ i lt. get_or-drop n places i nil ∙ are (n + i) (omega arith) (omega (arith, lt, dropped)) ∙ sym (held_cleared (length places - n) i))

-- the first ones of others, and then those of a list that are nil as the others are
pub others_first : (places others : List Place) (n : ℕ) → length places ≡ length others → AreNil places n (length places) → AreNil others n (length others)
    → take n others ++ drop n places ≡ others
others_first places others n as_many are are_others =
    ap (λ ps. take n others ++ ps) (drop_nil places n are ∙ ap (λ l. replicate (l - n) nil) as_many ∙ sym (drop_nil others n are_others)) ∙ take-append-drop n others

-- ---- places over others

-- the first of some in place of the only one
pub one_written : (to from : List Place) → length to ≡ 1 → 1 ≤ length from → slice_set to 0 (held_at from 0) ≡ take (length to) from
one_written [] from one some = absurd (omega (arith, one))
one_written (x ∷ []) [] one some = absurd (omega (arith, some))
one_written (x ∷ []) (y ∷ from) one some = refl
one_written (x ∷ z ∷ to) from one some = absurd (omega (arith, one))
