-- Text that has a piece for each of the first so many numbers grows piece by piece, and where pieces are empty it stays.
use Rattle.std.proofs.Common.{◌≡◌, ℕ, zero, suc, ◌+◌, ◌<◌, ◌≤◌, sym, ap, ◌∙◌, inl, inr, arith, List, [], ◌++◌, append_assoc}
use Rattle.std.specs.Prelude.{Option}
use Rattle.std.proofs.lemmas.Bool.Decides.{leb_tells}
use Rattle.std.proofs.lemmas.List.{append-nil}
use Rattle.lxr_blocks.specs.Listing.{joined}
use Rattle.lxr_blocks.proofs.ListingLemmas.{joined_more, joined_none}
use Rattle.lxr_text_stream.specs.Streams.{AppendsFront}
use Rattle.lxr_text_print.specs.Pages.{Moves}
use Rattle.lxr_text_print.proofs.PageLemmas.{AppendsFront-moved, AppendsFront-part, Moves-none, Moves-push, Moves-then}

-- the first pieces are a prefix of more of them
pub joined_front : (f : ℕ → List ℕ) (i n : ℕ) → i ≤ n → (rest : List ℕ) × (joined f n ≡ joined f i ++ rest)
unfolding joined
joined_front f i zero within = let same : 0 ≡ i = omega arith in ([], ap (joined f) same ∙ sym (append-nil (joined f i)))
joined_front f i (suc n) within = elim (leb_tells (suc n) i) [
  | inl c ↦ let above = c.1 in let same : suc n ≡ i = omega arith in ([], ap (joined f) same ∙ sym (append-nil (joined f i)))
  | inr c ↦
      let below = c.1 in
      let before = joined_front f i n (omega arith) in
      (before.0 ++ f n, ap (λ x. x ++ f n) before.1 ∙ append_assoc (joined f i) before.0 (f n))
]

-- empty pieces add nothing
pub joined_stays : (f : ℕ → List ℕ) (from end : ℕ) → from ≤ end → ((i : ℕ) → from ≤ i → i < end → f i ≡ []) → joined f end ≡ joined f from
unfolding joined
joined_stays f from zero past empty = let same : 0 ≡ from = omega arith in ap (joined f) same
joined_stays f from (suc n) past empty = elim (leb_tells (suc n) from) [
  | inl c ↦ let above = c.1 in let same : suc n ≡ from = omega arith in ap (joined f) same
  | inr c ↦
      let below = c.1 in
      ap (λ x. joined f n ++ x) (empty n (omega arith) (omega arith)) ∙ append-nil (joined f n)
      ∙ joined_stays f from n (omega arith) (λ i h less. empty i h (omega (arith, less)))
]

-- no piece was moved yet
pub Moves-no_piece : (w : Option (List ℕ)) (t : List ℕ) (f : ℕ → List ℕ) → Moves w w (t ++ joined f 0) t
Moves-no_piece w t f = rw (joined_none f, append-nil t) (Moves-none w t)

-- one piece more was pushed behind the pieces so far
pub Moves-piece : {u v w : Option (List ℕ)} {p q r : List ℕ} (t : List ℕ) (f : ℕ → List ℕ) (i : ℕ) →
    Moves u v (t ++ joined f i) p → Moves v w p q → r ≡ q ++ f i → Moves u w (t ++ joined f (i + 1)) r
Moves-piece t f i a b e = rw (e, ← joined_more f i, ← append_assoc t (joined f i) (f i)) (Moves-push (f i) (Moves-then a b))

-- the pieces so far were moved, and a call stopped within the page
pub AppendsFront-joined : {u v w : Option (List ℕ)} {p : List ℕ} (t : List ℕ) (f : ℕ → List ℕ) (i n : ℕ) → i ≤ n →
    Moves u v (t ++ joined f i) p → AppendsFront v w p → AppendsFront u w (t ++ joined f n)
AppendsFront-joined t f i n within a b =
    let front = joined_front f i n within in
    AppendsFront-part _ _ t (joined f i) front.0 (joined f n) front.1 (AppendsFront-moved a b)
