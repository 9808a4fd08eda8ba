-- One word that is read into a row of one.
use Rattle.std.proofs.Common.{◌≡◌, ℕ, refl, arith, List, [], ◌∷◌, length}
use Rattle.std.specs.Prelude.{OnErr, Result, Ok, Err, slice_index_or}

-- a row of one word is that word
pub one_word : (words : List ℕ) (d : ℕ) → length words ≡ 1 → words ≡ slice_index_or words 0 d ∷ []
one_word [] d one = absurd (omega (arith, one))
one_word (w ∷ []) d one = refl
one_word (w ∷ v ∷ vs) d one = absurd (omega (arith, one))

-- the words of two rows of one that are the same
pub same_word : (v w : ℕ) → v ∷ [] ≡ w ∷ [] → v ≡ w
same_word v w same = cc

-- what follows of what holds where there is an error
pub on_error : {T E : Type 0} (r : Result T E) (P Q : Type 0) → (P → Q) → OnErr r P → OnErr r Q
on_error (Ok told) P Q follows holds = holds
on_error (Err e) P Q follows holds = follows holds
