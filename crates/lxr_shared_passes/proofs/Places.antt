-- In how many views an actor is, and what holds of each actor that a view has.
use Rattle.std.proofs.Common.{◌≡◌, ◌≢◌, ℕ, zero, suc, ◌+◌, ◌<◌, ◌≤◌, List, [], ◌∷◌, ◌++◌, length, set, Some, refl, sym, ap, ◌∙◌, arith}
use Rattle.std.specs.Prelude.{slice_get}
use native.Mathlib.Decide.{ℕ_discrete}
use lib.ListN.{get_elem?}
use mathlib.Core.Option.{some, some-injective, some-ne-none}
use Rattle.lxr_actor.proofs.Runs.{one_if-same, one_if-other}
use Rattle.lxr_shared_passes.specs.declared.rule.Held.{Held}
use Rattle.lxr_shared_passes.specs.declared.rule.View.{View}
use Rattle.lxr_shared_passes.specs.Passing.{Every}
use Rattle.lxr_shared_passes.specs.Rule.{count, entries, rest_of, first_of, numbers, places}

module _ {X : Type 0} (P : X → Type 0) where
  pub every-append : (xs ys : List X) → Every P xs → Every P ys → Every P (xs ++ ys)
  every-append [] ys p q = q
  every-append (x ∷ xs) ys p q = (p.0, every-append xs ys p.1 q)

pub every-map : {X : Type 0} (P Q : X → Type 0) → ((x : X) → P x → Q x) → (xs : List X) → Every P xs → Every Q xs
every-map P Q f [] p = tt
every-map P Q f (x ∷ xs) p = (f x p.0, every-map P Q f xs p.1)

module _ {A : Type 0} where
  pub every-rest : (P : Held A → Type 0) (hs : List (Held A)) → Every P hs → Every P (rest_of hs)
  every-rest P [] p = tt
  every-rest P (h ∷ hs) p = p.1

  pub every-first : (P : Held A → Type 0) (hs : List (Held A)) → Every P hs → Every P (first_of hs)
  every-first P [] p = tt
  every-first P (h ∷ hs) p = (p.0, tt)

  pub count-cut : (x : ℕ) (hs : List (Held A)) → count x (numbers (rest_of hs)) + count x (numbers (first_of hs)) ≡ count x (numbers hs)
  count-cut x [] = refl
  count-cut x (h ∷ hs) = omega arith

  pub count-joined : (x : ℕ) (hs is : List (Held A)) → count x (numbers (hs ++ is)) ≡ count x (numbers hs) + count x (numbers is)
  count-joined x [] is = omega arith
  count-joined x (h ∷ hs) is = let r = count-joined x hs is in omega arith

  entries-before : (x from : ℕ) (actors : List A) → x < from → count x (numbers (entries from actors)) ≡ 0
  entries-before x from [] lt = refl
  entries-before x from (a ∷ rest) lt =
      let r = entries-before x (suc from) rest (omega arith) in
      let ne = one_if-other from x (λ e. omega arith) in
      omega arith

  -- at opening each actor is there once
  pub entries-once : (x from : ℕ) (actors : List A) → from ≤ x → x < from + length actors → count x (numbers (entries from actors)) ≡ 1
  entries-once x from [] le lt = absurd (omega arith)
  entries-once x from (a ∷ rest) le lt = elim (ℕ_discrete from x) [
    | yes e ↦ let here = one_if-same from x e in let r = entries-before x (suc from) rest (omega arith) in omega arith
    | no ne ↦ let here = one_if-other from x ne in let r = entries-once x (suc from) rest (omega arith) (omega arith) in omega arith
  ]

  pub entries-known : (all : List A) (from : ℕ) (actors : List A) → ((k : ℕ) → slice_get actors k ≡ slice_get all (from + k))
      → Every (λ (h : Held A). (slice_get all h.number ≡ Some h.actor) × (h.seen ≡ [])) (entries from actors)
  entries-known all from [] same = tt
  entries-known all from (a ∷ rest) same =
      let z : from + 0 ≡ from = omega arith in (
        ((sym (same 0 ∙ ap (slice_get all) z)), refl),
        entries-known all (suc from) rest (λ k. let e : from + suc k ≡ suc from + k = omega arith in same (suc k) ∙ ap (slice_get all) e),
      )

  pub places-set : (views : List (View A)) (id : ℕ) (v w : View A) (x : ℕ) → get_elem? views id ≡ some v
      → places x (set views id w) + count x (numbers v.held) ≡ places x views + count x (numbers w.held)
  places-set [] id v w x e = absurd (some-ne-none v (sym e))
  places-set (u ∷ us) zero v w x e = let is : count x (numbers u.held) ≡ count x (numbers v.held) = ap (λ (z : View A). count x (numbers z.held)) (some-injective u v e) in omega arith
  places-set (u ∷ us) (suc id) v w x e = let r = places-set us id v w x e in omega arith

  pub places-snoc : (views : List (View A)) (w : View A) (x : ℕ) → places x (views ++ w ∷ []) ≡ places x views + count x (numbers w.held)
  places-snoc [] w x = omega arith
  places-snoc (u ∷ us) w x = let r = places-snoc us w x in omega arith

  places-one : (views : List (View A)) (id : ℕ) (v : View A) (x : ℕ) → get_elem? views id ≡ some v → count x (numbers v.held) ≤ places x views
  places-one [] id v x e = absurd (some-ne-none v (sym e))
  places-one (u ∷ us) zero v x e = let is : count x (numbers u.held) ≡ count x (numbers v.held) = ap (λ (z : View A). count x (numbers z.held)) (some-injective u v e) in omega arith
  places-one (u ∷ us) (suc id) v x e = let r = places-one us id v x e in omega arith

  -- two views count apart
  pub places-two : (views : List (View A)) (i j : ℕ) (v w : View A) (x : ℕ) → i ≢ j → get_elem? views i ≡ some v → get_elem? views j ≡ some w
      → count x (numbers v.held) + count x (numbers w.held) ≤ places x views
  places-two [] i j v w x n e f = absurd (some-ne-none v (sym e))
  places-two (u ∷ us) zero zero v w x n e f = absurd (n refl)
  places-two (u ∷ us) zero (suc j) v w x n e f = let is : count x (numbers u.held) ≡ count x (numbers v.held) = ap (λ (z : View A). count x (numbers z.held)) (some-injective u v e) in let r = places-one us j w x f in omega arith
  places-two (u ∷ us) (suc i) zero v w x n e f = let is : count x (numbers u.held) ≡ count x (numbers w.held) = ap (λ (z : View A). count x (numbers z.held)) (some-injective u w f) in let r = places-one us i v x e in omega arith
  places-two (u ∷ us) (suc i) (suc j) v w x n e f = let r = places-two us i j v w x (λ s. n (ap suc s)) e f in omega arith
