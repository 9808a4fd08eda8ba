-- The hinters of a set get their ways one after another; their deques stay the same meanwhile.
use Rattle.std.proofs.Common.{◌≡◌, ◌≢◌, ℕ, zero, suc, ◌+◌, ◌-◌, ◌<◌, ◌⊎◌, inl, inr, List, [], ◌∷◌, ◌++◌, length, map, take, drop, refl, sym, ap, ◌∙◌, arith, replicate}
use Rattle.std.specs.Prelude.{Some, slice_get, slice_set}
use Rattle.std.proofs.Math.Seq.{map-set_same}
use Rattle.std.proofs.lemmas.List.{drop-map, length-drop, length-map, length-replicate, take-map, take_all}
use Rattle.std.proofs.lemmas.Option.{get_or_from_slice_get}
use Rattle.lxr_hints.specs.declared.shared.Shared.{Shared}
use Rattle.lxr_hints.specs.Sharing.{way_deque}
use Rattle.lxr_hints.specs.Taking.{Hinting}
use Rattle.lxr_hints.specs.Joined.{others_of, own_deque, pushes_of}

-- the first so many have their ways
abbrev pub AreJoinedBelow : {H : Type 0} → ℕ → List (Hinting (Shared H)) → Type 0
AreJoinedBelow {H} count set = (number : ℕ) (h : Hinting (Shared H)) → number < count → slice_get set number ≡ Some h → map way_deque h.deques.ways.items ≡ others_of number (map own_deque set)

-- the others of one, by what f tells of them
pub others-map : {X Y : Type 0} (f : X → Y) (number : ℕ) (xs : List X) → map f (drop (number + 1) xs) ++ map f (take number xs) ≡ others_of number (map f xs)
others-map f number xs = ap (λ ys. ys ++ map f (take number xs)) (sym (drop-map f (number + 1) xs)) ∙ ap (λ ys. drop (number + 1) (map f xs) ++ ys) (sym (take-map f number xs))

set_cases : {X : Type 0} (xs : List X) (n : ℕ) (new : X) (k : ℕ) (x : X) → slice_get (slice_set xs n new) k ≡ Some x → ((k ≡ n) × (x ≡ new)) ⊎ ((k ≢ n) × (slice_get xs k ≡ Some x))
set_cases [] n new k x at = absurd (cc)
set_cases (y ∷ xs) zero new zero x at = inl (refl, cc)
set_cases (y ∷ xs) zero new (suc k) x at = inr (λ e. omega arith, at)
set_cases (y ∷ xs) (suc n) new zero x at = inr (λ e. omega arith, at)
set_cases (y ∷ xs) (suc n) new (suc k) x at = elim (set_cases xs n new k x at) [
  | inl (same, is) ↦ inl (ap suc same, is)
  | inr (other, is) ↦ inr (λ e. other (omega arith), is)
]

-- one more has its ways
pub joined_more : {H : Type 0} (set : List (Hinting (Shared H))) (number : ℕ) (old new : Hinting (Shared H)) → slice_get set number ≡ Some old → own_deque new ≡ own_deque old
    → map way_deque new.deques.ways.items ≡ others_of number (map own_deque set) → AreJoinedBelow number set → AreJoinedBelow (number + 1) (slice_set set number new)
joined_more {H} set number old new was same ways below k h within at =
    let own : map own_deque (slice_set set number new) ≡ map own_deque set = map-set_same own_deque set number new old (same ∙ ap own_deque (sym (get_or_from_slice_get set number old old was))) in
    let of_all : map way_deque h.deques.ways.items ≡ others_of k (map own_deque set) = elim (set_cases set number new k h at) [
      | inl (here, is) ↦ ap (λ (x : Hinting (Shared H)). map way_deque x.deques.ways.items) is ∙ ways ∙ ap (λ (n : ℕ). others_of n (map own_deque set)) (sym here)
      | inr (other, is) ↦ below k h (omega arith) is
    ] in
    of_all ∙ ap (others_of k) (sym own)

-- and each has the pushes that it had
pub pushes_stay : {H : Type 0} (set : List (Hinting (Shared H))) (number : ℕ) (old new : Hinting (Shared H)) → slice_get set number ≡ Some old → new.pushes ≡ old.pushes
    → map pushes_of (slice_set set number new) ≡ map pushes_of set
pushes_stay set number old new was same = map-set_same pushes_of set number new old (same ∙ ap pushes_of (sym (get_or_from_slice_get set number old old was)))

-- ways to those behind one, and then to those before it, lead to its others
pub ways_lead : {X Y W : Type 0} (f : X → Y) (lead : W → Y) (set : List X) (number : ℕ) (none first both : List W) → none ≡ [] → number < length set
    → map lead first ≡ map lead none ++ map f (take (length set - (number + 1)) (drop (number + 1) set)) → map lead both ≡ map lead first ++ map f (take number set)
    → map lead both ≡ others_of number (map f set)
ways_lead f lead set number none first both empty within behind before =
    let all : take (length set - (number + 1)) (drop (number + 1) set) ≡ drop (number + 1) set = take_all _ _ (omega (arith, length-drop (number + 1) set)) in
    let firsts : map lead first ≡ map f (drop (number + 1) set) = behind ∙ ap (λ ws. map lead ws ++ map f (take (length set - (number + 1)) (drop (number + 1) set))) empty ∙ ap (map f) all in
    before ∙ ap (λ ys. ys ++ map f (take number set)) firsts ∙ others-map f number set

-- there are as many hinters as counts of pushes
pub as_many : {D : Type 0} (set : List (Hinting D)) (count : ℕ) → map pushes_of set ≡ replicate count 0 → length set ≡ count
as_many set count fresh = sym (length-map set pushes_of) ∙ ap length fresh ∙ length-replicate count 0
