-- Turns serve an actor, and these actors' words are there.
use Rattle.std.proofs.Common.{◌≡◌, ℕ, zero, suc, ◌+◌, ◌<◌, List, [], ◌∷◌, ◌++◌, length, map, take, get_or, All, ⊎_elim, inl, inr, refl, ap, ◌∙◌, arith}
use Rattle.std.proofs.Math.Seq.{take-append_seam}
use Rattle.lxr_actor.specs.Machine.{Machine}
use Rattle.atomic_table.specs.Seated.{TableId}
use Rattle.lxr_actor.specs.declared.Core.{Core}
use Rattle.lxr_shared_passes.specs.Passing.{Passing, dealt, Turned}
use Rattle.lxr_shared_passes.proofs.Turns.{turn-counts, turn-finished, finished-stays}
use Rattle.test_threads.specs.Serving.{IsServed}

pub turn-serves : {A : Type 0} (m : Machine A) (olds : List ℕ) (p q : Passing A) (i : ℕ) → Turned m p olds q → IsServed m i p → IsServed m (i + 1) q
turn-serves m olds p q i t before =
    ⊎_elim
    (λ none. inl (finished-stays m olds p q t none))
    (λ le. ⊎_elim (λ none. inl none) (λ some. let count = turn-counts m olds p q t in inr (omega arith)) (turn-finished m olds p q t))
    before

-- the same numbers, element by element
pub same-map : {X : Type 0} (f : X → ℕ) (xs ys : List X) → length ys ≡ length xs → ((k : ℕ) (d : X) → k < length xs → f (get_or ys k d) ≡ f (get_or xs k d)) → map f ys ≡ map f xs
same-map f [] [] len same = refl
same-map f [] (y ∷ ys) len same = absurd (omega arith)
same-map f (x ∷ xs) [] len same = absurd (omega arith)
same-map f (x ∷ xs) (y ∷ ys) len same = (λ i. same 0 x (omega arith) i ∷ same-map f xs ys (omega arith) (λ k d lt. same (suc k) d (omega arith)) i)

-- all passes that were dealt are of the epoch
pub dealt-epoch : {A : Type 0} (id : TableId) (core : Core A) (from : ℕ) (actors : List A) → All (λ (p : Passing A). p.epoch ≡ id) (dealt id core from actors)
dealt-epoch id core from [] k d lt = absurd (omega arith)
dealt-epoch id core from (a ∷ rest) zero d lt = refl
dealt-epoch id core from (a ∷ rest) (suc k) d lt = dealt-epoch id core (suc from) rest k d (omega arith)

-- a list that was lent whole comes back whole
pub put_back : {X : Type 0} (n : ℕ) (xs ys : List X) → n ≡ length xs → take n (xs ++ ys) ≡ xs
put_back n xs ys e = ap (λ (k : ℕ). take k (xs ++ ys)) e ∙ take-append_seam xs ys
