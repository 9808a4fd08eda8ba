-- The names of a list that pass a test: which they are, that they stay in order, and how many more there are where one name more passes.
use Rattle.std.proofs.Common.{◌≡◌, ℕ, ◌+◌, refl, sym, ap, ◌∙◌, inl, inr, arith, Bool, true, false, cond, List, [], ◌∷◌, length}
use Rattle.std.specs.Prelude.{IsTrue, filter}
use Rattle.std.proofs.lemmas.Bool.{or_cases, or_left, or_right}
use Rattle.std.proofs.lemmas.List.Kept.{IsStrictlySortedBy-filter}
use Rattle.lxr_layout.specs.declared.Name.{Name}
use Rattle.lxr_graph.specs.Distinct.{IsDistinct}
use Rattle.lxr_graph.specs.Names.{AreInOrder, has, name_order, same_name}
use Rattle.lxr_graph.proofs.NameSets.{not_both, same_itself, same_names}
use Rattle.lxr_model_counting.proofs.DistinctLemmas.{has_split, tested}

-- a name of these is one of the list that passes
pub filter_parts : (p : Name → Bool) (ns : List Name) (q : Name) → IsTrue (has (filter p ns) q) → IsTrue (has ns q) × IsTrue (p q)
filter_parts p [] q h = absurd (cc)
filter_parts p (n ∷ ns) q h = elim (p n) as (λ b. p n ≡ b → IsTrue (has (cond b (n ∷ filter p ns) (filter p ns)) q) → IsTrue (has (n ∷ ns) q) × IsTrue (p q)) [
  | true ↦ λ e h. elim (or_cases (same_name q n) (has (filter p ns) q) h) [
    | inl k ↦ (or_left (same_name q n) (has ns q) k, ap p (same_names q n k) ∙ e)
    | inr k ↦ let r = filter_parts p ns q k in (or_right (same_name q n) (has ns q) r.0, r.1)
  ]
  | false ↦ λ e h. let r = filter_parts p ns q h in (or_right (same_name q n) (has ns q) r.0, r.1)
] refl h

-- and such a name is one of these
pub in_filter : (p : Name → Bool) (ns : List Name) (q : Name) → IsTrue (has ns q) → IsTrue (p q) → IsTrue (has (filter p ns) q)
in_filter p [] q h k = h
in_filter p (n ∷ ns) q h k = elim (p n) as (λ b. p n ≡ b → IsTrue (has (cond b (n ∷ filter p ns) (filter p ns)) q)) [
  | true ↦ λ e. elim (or_cases (same_name q n) (has ns q) h) [
    | inl g ↦ or_left (same_name q n) (has (filter p ns) q) g
    | inr g ↦ or_right (same_name q n) (has (filter p ns) q) (in_filter p ns q g k)
  ]
  | false ↦ λ e. elim (or_cases (same_name q n) (has ns q) h) [
    | inl g ↦ not_both (p q) k (ap p (same_names q n g) ∙ e)
    | inr g ↦ in_filter p ns q g k
  ]
] refl

pub filter_in_order : (p : Name → Bool) (ns : List Name) → AreInOrder ns → AreInOrder (filter p ns)
filter_in_order p ns o = IsStrictlySortedBy-filter name_order p ns o

-- tests that tell the same of the names of a list leave the same
pub filter_same : (p q : Name → Bool) (ns : List Name) → ((n : Name) → IsTrue (has ns n) → q n ≡ p n) → filter q ns ≡ filter p ns
filter_same p q [] same = refl
filter_same p q (n ∷ ns) same =
    let rest = filter_same p q ns (λ u h. same u (or_right (same_name u n) (has ns u) h)) in
    let here = same n (or_left (same_name n n) (has ns n) (same_itself n)) in
    λ i. cond (here i) (n ∷ rest i) (rest i)

-- no name passes
pub filter_none : (p : Name → Bool) (ns : List Name) → ((n : Name) → IsTrue (has ns n) → p n ≡ false) → filter p ns ≡ []
filter_none p [] none = refl
filter_none p (n ∷ ns) none =
    let rest = filter_none p ns (λ u h. none u (or_right (same_name u n) (has ns u) h)) in
    let here = none n (or_left (same_name n n) (has ns n) (same_itself n)) in
    λ i. cond (here i) (n ∷ rest i) (rest i)

-- how many a name counts for, by whether it passes
abbrev worth : Bool → ℕ
worth b = cond b 1 0

-- how many pass, by the first name
counted : (p : Name → Bool) (n : Name) (ns : List Name) → length (filter p (n ∷ ns)) ≡ worth (p n) + length (filter p ns)
counted p n ns = elim (p n) as (λ b. length (cond b (n ∷ filter p ns) (filter p ns)) ≡ worth b + length (filter p ns)) [ true ↦ omega arith | false ↦ omega arith ]

-- where one name passes that didn't, and nothing else has changed, there is one more
pub filter_one_more : (p q : Name → Bool) (ns : List Name) (x : Name) → IsDistinct ns → IsTrue (has ns x) → p x ≡ false → q x ≡ true
    → ((n : Name) → IsTrue (has ns n) → same_name n x ≡ false → q n ≡ p n) → length (filter q ns) ≡ length (filter p ns) + 1
filter_one_more p q [] x distinct member before after others = absurd (cc)
filter_one_more p q (n ∷ ns) x distinct member before after others =
    let a = counted p n ns in
    let b = counted q n ns in
    elim (has_split n ns x member) [
      | inl same ↦
          let rest = filter_same p q ns (λ u h. others u (or_right (same_name u n) (has ns u) h) (elim (tested (same_name u x)) [
            | inl one ↦ absurd (let e : has ns u ≡ has ns n = ap (has ns) (same_names u x one ∙ same) in let no = distinct.0 in cc)
            | inr differ ↦ differ
          ])) in
          let few = ap length rest in
          let was : worth (p n) ≡ 0 = ap (λ z. worth (p z)) (sym same) ∙ ap worth before in
          let is : worth (q n) ≡ 1 = ap (λ z. worth (q z)) (sym same) ∙ ap worth after in
          omega (arith, a, b, few, was, is)
      | inr later ↦
          let rest = filter_one_more p q ns x distinct.1 later before after (λ u h. others u (or_right (same_name u n) (has ns u) h)) in
          let here : worth (q n) ≡ worth (p n) = ap worth (others n (or_left (same_name n n) (has ns n) (same_itself n)) (elim (tested (same_name n x)) [
            | inl one ↦ absurd (let e : has ns n ≡ has ns x = ap (has ns) (same_names n x one) in let no = distinct.0 in cc)
            | inr differ ↦ differ
          ])) in
          omega (arith, a, b, rest, here)
    ]
