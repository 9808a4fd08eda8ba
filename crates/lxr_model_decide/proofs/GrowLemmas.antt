-- What grows by one candidate a round: each name in it was let in over names that were let in before, and after as many
-- rounds as candidates nothing more may join.
use Rattle.std.proofs.Common.{◌≡◌, ℕ, zero, suc, ◌+◌, ◌≤◌, refl, sym, ap, subst, ◌∙◌, inl, inr, ◌⊎◌, arith, Bool, true, false, cond, List, [], ◌∷◌, IsTrue, length}
use Rattle.std.specs.Prelude.{Option, Some, None, not}
use Rattle.std.proofs.lemmas.Bool.{or_cases, or_left, or_right}
use Rattle.lxr_layout.specs.declared.Name.{Name}
use Rattle.lxr_graph.specs.Names.{same_name, has, without, insert_name, AreInOrder}
use Rattle.lxr_graph.proofs.NameSets.{same_itself, same_names, not_both, in_order-insert, in_order-none, insert_cases, insert_new, insert_old, in_without, without_parts, has_one}
use Rattle.lxr_model_decide.specs.Growing.{first_that, grown, names_grown}

-- ---- the first that passes

some_is : {A : Type 0} {x y : A} → Some x ≡ Some y → x ≡ y
some_is e = cc

none_some : {P A : Type 0} {x : A} → None ≡ Some x → P
none_some e = absurd (cc)

first_passes : (p : Name → Bool) (ns : List Name) (n : Name) → first_that p ns ≡ Some n → IsTrue (p n) × IsTrue (has ns n)
first_passes p [] n e = none_some e
first_passes p (m ∷ ms) n e = elim (p m) as (λ b. p m ≡ b → cond b (Some m) (first_that p ms) ≡ Some n → IsTrue (p n) × IsTrue (has (m ∷ ms) n)) [
  | true ↦ λ k e. let q : m ≡ n = some_is e in (ap p (sym q) ∙ k, or_left (same_name n m) (has ms n) (ap (same_name n) q ∙ same_itself n))
  | false ↦ λ k e. let r = first_passes p ms n e in (r.0, or_right (same_name n m) (has ms n) r.1)
] refl e

first_none : (p : Name → Bool) (ns : List Name) → first_that p ns ≡ None → (n : Name) → IsTrue (has ns n) → p n ≡ false
first_none p [] e n h = absurd (cc)
first_none p (m ∷ ms) e n h = elim (p m) as (λ b. p m ≡ b → cond b (Some m) (first_that p ms) ≡ None → p n ≡ false) [
  | true ↦ λ k e. none_some (sym e)
  | false ↦ λ k e. elim (or_cases (same_name n m) (has ms n) h) [
    | inl q ↦ ap p (same_names n m q) ∙ k
    | inr q ↦ first_none p ms e n q
  ]
] refl e

-- ---- what is left

without-no_longer : (ns out : List Name) → length (without ns out) ≤ length ns
without-no_longer [] out = omega arith
without-no_longer (m ∷ ms) out =
    let k = without-no_longer ms out in
    elim (not (has out m)) as (λ b. length (cond b (m ∷ without ms out) (without ms out)) ≤ suc (length ms)) [ true ↦ omega arith | false ↦ omega arith ]

without-shorter : (ns : List Name) (n : Name) → IsTrue (has ns n) → length (without ns (n ∷ [])) + 1 ≤ length ns
without-shorter [] n h = absurd (cc)
without-shorter (m ∷ ms) n h =
    elim (has (n ∷ []) m) as (λ b. has (n ∷ []) m ≡ b → length (cond (not b) (m ∷ without ms (n ∷ [])) (without ms (n ∷ []))) + 1 ≤ suc (length ms)) [
      | true ↦ λ k. let l = without-no_longer ms (n ∷ []) in omega arith
      | false ↦ λ k. elim (or_cases (same_name n m) (has ms n) h) [
        | inl q ↦ not_both (has (n ∷ []) m) (or_left (same_name m n) false (ap (same_name m) (same_names n m q) ∙ same_itself m)) k
        | inr q ↦ let l = without-shorter ms n q in omega arith
      ]
    ] refl

-- ---- one round

-- the names taken and left after a round
abbrev round : (List Name → Name → Bool) → ℕ → List Name → List Name → Option Name → List Name
round f k taken left None = taken
round f k taken left (Some n) = grown f k (insert_name n taken) (without left (n ∷ []))

-- what is let in over names of which P holds is P
abbrev pub LetsIn : (List Name → Name → Bool) → List Name → (Name → Type 0) → Type 0
LetsIn f candidates P = (taken : List Name) (n : Name) → ((q : Name) → IsTrue (has taken q) → P q) → IsTrue (has candidates n) → IsTrue (f taken n) → P n

grown_are : (f : List Name → Name → Bool) (cs : List Name) (P : Name → Type 0) → LetsIn f cs P → (k : ℕ) (taken left : List Name)
    → ((q : Name) → IsTrue (has left q) → IsTrue (has cs q)) → ((q : Name) → IsTrue (has taken q) → P q) → (q : Name) → IsTrue (has (grown f k taken left) q) → P q
grown_are f cs P lets zero taken left within all q h = all q h
grown_are f cs P lets (suc k) taken left within all q h =
    elim (first_that (f taken) left) as (λ x. first_that (f taken) left ≡ x → IsTrue (has (round f k taken left x) q) → P q) [
      | None ↦ λ e h. all q h
      | Some n ↦ λ e h.
          let r = first_passes (f taken) left n e in
          grown_are f cs P lets k (insert_name n taken) (without left (n ∷ []))
          (λ m g. within m (without_parts left (n ∷ []) m g).0)
          (λ m g. elim (insert_cases n taken m g) [ inl e ↦ subst P (sym e) (lets taken n all (within n r.1) r.0) | inr g ↦ all m g ]) q h
    ] refl h

grown_in_order : (f : List Name → Name → Bool) (k : ℕ) (taken left : List Name) → AreInOrder taken → AreInOrder (grown f k taken left)
grown_in_order f zero taken left o = o
grown_in_order f (suc k) taken left o = elim (first_that (f taken) left) as (λ x. AreInOrder (round f k taken left x)) [
  | None ↦ o
  | Some n ↦ grown_in_order f k (insert_name n taken) (without left (n ∷ [])) (in_order-insert n taken o)
]

-- each candidate that may join has joined
abbrev pub IsFull : (List Name → Name → Bool) → List Name → List Name → Type 0
IsFull f cs ns = (q : Name) → IsTrue (has cs q) → IsTrue (f ns q) → IsTrue (has ns q)

-- a name that is taken or left is so after n was taken
still_there : (n : Name) (taken left : List Name) (q : Name) → IsTrue (has taken q) ⊎ IsTrue (has left q)
    → IsTrue (has (insert_name n taken) q) ⊎ IsTrue (has (without left (n ∷ [])) q)
still_there n taken left q (inl g) = inl (insert_old n taken q g)
still_there n taken left q (inr g) =
    elim (same_name q n) as (λ b. same_name q n ≡ b → IsTrue (has (insert_name n taken) q) ⊎ IsTrue (has (without left (n ∷ [])) q)) [
      | true ↦ λ e. inl (subst (λ x. IsTrue (has (insert_name n taken) x)) (sym (same_names q n e)) (insert_new n taken))
      | false ↦ λ e. inr (in_without left (n ∷ []) q g (λ g. not_both (same_name q n) (ap (same_name q) (sym (has_one n q g)) ∙ same_itself q) e))
    ] refl

grown_full : (f : List Name → Name → Bool) (cs : List Name) (k : ℕ) (taken left : List Name) → length left ≤ k
    → ((q : Name) → IsTrue (has cs q) → IsTrue (has taken q) ⊎ IsTrue (has left q)) → IsFull f cs (grown f k taken left)
grown_full f cs zero taken [] fuel all = λ q h e. elim (all q h) [ inl g ↦ g | inr g ↦ absurd (cc) ]
grown_full f cs zero taken (n ∷ left) fuel all = absurd (omega arith)
grown_full f cs (suc k) taken left fuel all =
    elim (first_that (f taken) left) as (λ x. first_that (f taken) left ≡ x → IsFull f cs (round f k taken left x)) [
      | None ↦ λ e q h g. elim (all q h) [ inl k ↦ k | inr k ↦ not_both (f taken q) g (first_none (f taken) left e q k) ]
      | Some n ↦ λ e.
          let shorter = without-shorter left n (first_passes (f taken) left n e).1 in
          grown_full f cs k (insert_name n taken) (without left (n ∷ [])) (omega arith) (λ q h. still_there n taken left q (all q h))
    ] refl

-- ---- the names grown

pub names_are : (f : List Name → Name → Bool) (cs : List Name) (P : Name → Type 0) → LetsIn f cs P → (q : Name) → IsTrue (has (names_grown f cs) q) → P q
names_are f cs P lets = grown_are f cs P lets (length cs) [] cs (λ q h. h) (λ q h. absurd (cc))

pub names_in_order : (f : List Name → Name → Bool) (cs : List Name) → AreInOrder (names_grown f cs)
names_in_order f cs = grown_in_order f (length cs) [] cs in_order-none

pub names_full : (f : List Name → Name → Bool) (cs : List Name) → IsFull f cs (names_grown f cs)
names_full f cs = grown_full f cs (length cs) [] cs (omega arith) (λ q h. inr h)
