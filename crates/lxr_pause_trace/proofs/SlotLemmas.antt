-- How many references objects have that are still to be marked, in a list of places: an object that comes to be marked takes its own away.
use Rattle.std.proofs.Common.{◌≡◌, ℕ, zero, suc, ◌+◌, ◌*◌, ◌≤◌, refl, sym, ap, subst, ◌∙◌, inl, inr, ◌⊎◌, arith, Bool, true, false, cond, List, [], ◌∷◌, ◌++◌, IsTrue}
use Rattle.std.specs.List.{Contains}
use Rattle.std.proofs.lemmas.Bool.Decides.{eqb_tells}
use Rattle.std.proofs.lemmas.List.Elements.{Contains-append_cases, Contains-append_left, Contains-append_right, Contains-push, Contains-push_cases}
use Rattle.lxr_layout.specs.declared.Place.{Place}
use Rattle.lxr_image.specs.Tables.{Tables}
use Rattle.lxr_image.specs.Reads.{granule_of}
use Rattle.lxr_pause_trace.specs.Marking.{slots_at, unmarked_slots, waiting_slots}

-- ---- one place of a list

pub none_in : {A : Type 0} (p : A) → ¬ Contains [] p
none_in p h = let within = h.1 in omega (arith, within)

in_one : {A : Type 0} (q p : A) → Contains (q ∷ []) p → q ≡ p
in_one q p h = elim (Contains-push_cases [] q p h) [ inl none ↦ absurd (none_in p none) | inr is ↦ is ]

pub first_or_later : {A : Type 0} (q : A) (ps : List A) (p : A) → Contains (q ∷ ps) p → (q ≡ p) ⊎ Contains ps p
first_or_later q ps p h = elim (Contains-append_cases (q ∷ []) ps p h) [ inl first ↦ inl (in_one q p first) | inr later ↦ inr later ]

pub is_first : {A : Type 0} (q : A) (ps : List A) → Contains (q ∷ ps) q
is_first q ps = Contains-append_left (q ∷ []) ps q (Contains-push [] q)

pub is_later : {A : Type 0} (q : A) (ps : List A) (p : A) → Contains ps p → Contains (q ∷ ps) p
is_later q ps p h = Contains-append_right (q ∷ []) ps p h

-- ---- marks are set

no_more : (a b : Bool) (n : ℕ) → (IsTrue a → IsTrue b) → cond b 0 n ≤ cond a 0 n
no_more true b n more = let set = more refl in subst (λ x. cond x 0 n ≤ 0) (sym set) (omega arith)
no_more false true n more = omega arith
no_more false false n more = omega arith

module _ (t : Tables) (f h : ℕ → Bool) (grow : (k : ℕ) → IsTrue (f k) → IsTrue (h k)) where
  pub fewer_unmarked : (ps : List ℕ) → unmarked_slots t h ps ≤ unmarked_slots t f ps
  fewer_unmarked [] = omega arith
  fewer_unmarked (p ∷ ps) =
      let one = no_more (f (granule_of p)) (h (granule_of p)) (slots_at t p) (grow (granule_of p)) in
      let rest = fewer_unmarked ps in
      omega (arith, one, rest)

  -- where an object comes to be marked, its references are taken away
  pub one_marked : (ps : List ℕ) (q : ℕ) → Contains ps q → f (granule_of q) ≡ false → h (granule_of q) ≡ true → unmarked_slots t h ps + slots_at t q ≤ unmarked_slots t f ps
  one_marked [] q h_in before after = absurd (none_in q h_in)
  one_marked (p ∷ ps) q h_in before after = elim (first_or_later p ps q h_in) [
    | inl same ↦
        let was : cond (f (granule_of p)) 0 (slots_at t p) ≡ slots_at t q = ap (λ b. cond b 0 (slots_at t p)) (ap (λ z. f (granule_of z)) same ∙ before) ∙ ap (slots_at t) same in
        let now : cond (h (granule_of p)) 0 (slots_at t p) ≡ 0 = ap (λ b. cond b 0 (slots_at t p)) (ap (λ z. h (granule_of z)) same ∙ after) in
        let rest = fewer_unmarked ps in
        omega (arith, was, now, rest)
    | inr later ↦
        let one = no_more (f (granule_of p)) (h (granule_of p)) (slots_at t p) (grow (granule_of p)) in
        let rest = one_marked ps q later before after in
        omega (arith, one, rest)
  ]

-- ---- the worklist

pub waiting_pushed : (t : Tables) (ps : List Place) (p : Place) → waiting_slots t (ps ++ p ∷ []) ≡ waiting_slots t ps + slots_at t p.0
waiting_pushed t [] p = omega arith
waiting_pushed t (q ∷ ps) p = let rest = waiting_pushed t ps p in omega (arith, rest)

-- ---- all places up to one

abbrev pub up_to : ℕ → List ℕ
up_to zero = []
up_to (suc n) = suc n ∷ up_to n

pub among_up_to : (n p : ℕ) → 1 ≤ p → p ≤ n → Contains (up_to n) p
among_up_to zero p some within = absurd (omega (arith, some, within))
among_up_to (suc n) p some within = elim (eqb_tells (suc n) p) [
  | inl same ↦ subst (Contains (suc n ∷ up_to n)) same.1 (is_first (suc n) (up_to n))
  | inr other ↦ let differ = other.1 in is_later (suc n) (up_to n) p (among_up_to n p some (omega (arith, within, differ)))
]

small_or_none : (b : Bool) (n : ℕ) → n ≤ 1023 → cond b 0 n ≤ 1023
small_or_none true n small = omega arith
small_or_none false n small = small

pub few_up_to : (t : Tables) (f : ℕ → Bool) (n : ℕ) → ((p : ℕ) → slots_at t p ≤ 1023) → unmarked_slots t f (up_to n) ≤ 1023 * n
few_up_to t f zero small = omega arith
few_up_to t f (suc n) small =
    let one = small_or_none (f (granule_of (suc n))) (slots_at t (suc n)) (small (suc n)) in
    let rest = few_up_to t f n small in
    omega (arith, one, rest)
