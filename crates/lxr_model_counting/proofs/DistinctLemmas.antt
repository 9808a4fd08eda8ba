-- Lists in order have no name twice, and what lists of names and of fields have.
use Rattle.std.proofs.Common.{◌≤◌, ◌≡◌, refl, sym, ap, subst, ◌∙◌, inl, inr, ◌⊎◌, arith, Bool, true, false, cond, List, [], ◌∷◌, IsTrue, nat_eq}
use Rattle.std.specs.Prelude.{count_by, not, ◌||◌}
use Rattle.std.specs.List.{AllByRecursion}
use Rattle.std.specs.List.Sorted.{IsStrictlySortedBy, IsPermutation}
use Rattle.std.specs.declared.cmp.Ordering.TheVariants.{Less}
use Rattle.std.proofs.lemmas.Bool.{or_cases, or_left, or_right, and_parts, false_from_ne_true}
use Rattle.std.proofs.lemmas.List.Sums.{sum_by-cons}
use Rattle.std.proofs.lemmas.List.Sorted.{sum_by-IsPermutation}
use Rattle.lxr_layout.specs.declared.Name.{Name}
use Rattle.lxr_graph.specs.Names.{without, union, same_name, name_order, has, AreInOrder}
pub use Rattle.lxr_graph.proofs.NameSets.{first_has, has_split, in_order_distinct, later_has}
use Rattle.lxr_graph.proofs.NameSets.{has-union, in_order-union, one_list, same_itself, same_names}
use Rattle.lxr_model.specs.Moments.{Field, same_field, with_field}
use Rattle.lxr_model_counting.specs.Distinct.{IsDistinct, has_field, AreDistinctFields}
use Rattle.lxr_model_counting.specs.Lowering.{once}

-- ---- tests

-- a test either holds or not
pub tested : (b : Bool) → (b ≡ true) ⊎ (b ≡ false)
tested true = inl refl
tested false = inr refl

pub or_false : (a b : Bool) → (a || b) ≡ false → (a ≡ false) × (b ≡ false)
or_false true b h = absurd (cc)
or_false false b h = (refl, h)

-- ---- names

pub same_flip : (a b : Name) → same_name a b ≡ false → same_name b a ≡ false
same_flip a b h = false_from_ne_true (same_name b a) (λ k. let t : same_name a b ≡ true = ap (same_name a) (same_names b a k) ∙ same_itself a in cc)

-- ---- names without others

-- a list without what it hasn't
pub without_apart : (ns out : List Name) → ((n : Name) → IsTrue (has ns n) → has out n ≡ false) → without ns out ≡ ns
without_apart [] out apart = refl
without_apart (n ∷ ns) out apart =
    subst (λ b. cond (not b) (n ∷ without ns out) (without ns out) ≡ n ∷ ns) (sym (apart n (first_has n ns)))
    (ap (λ x. n ∷ x) (without_apart ns out (λ q h. apart q (later_has n ns q h))))

-- lists that have the same names take out the same, and join the same to a list in order
pub without_same : (ns a b : List Name) → ((n : Name) → has a n ≡ has b n) → without ns a ≡ without ns b
without_same [] a b same = refl
without_same (n ∷ ns) a b same =
    ap (λ x. cond (not (has a n)) (n ∷ x) x) (without_same ns a b same) ∙ ap (λ c. cond (not c) (n ∷ without ns b) (without ns b)) (same n)

pub union_same : (a b ms : List Name) → AreInOrder ms → ((n : Name) → has a n ≡ has b n) → union a ms ≡ union b ms
union_same a b ms in_order same =
    let has_both : (n : Name) → has (union a ms) n ≡ has (union b ms) n = λ n. has-union a ms n ∙ ap (λ c. c || has ms n) (same n) ∙ sym (has-union b ms n) in
    one_list (union a ms) (union b ms) (in_order-union a ms in_order) (in_order-union b ms in_order) (λ n. (λ h. sym (has_both n) ∙ h, λ h. has_both n ∙ h))

-- ---- names, counted

-- no name stands more than once where none stands twice, and a name stands there where it stands once at least
pub counted_once : (ns : List Name) (q : Name) → IsDistinct ns → count_by (same_name q) ns ≤ 1
counted_once [] q d = omega arith
counted_once (n ∷ ns) q d =
    let step = sum_by-cons (λ m. cond (same_name q m) 1 0) n ns in
    let rest = counted_once ns q d.1 in
    elim (tested (same_name q n)) [
      | inl e ↦
          let here : once q n ≡ 1 = ap (λ b. cond b 1 0) e in
          let none = not_counted ns q (ap (has ns) (same_names q n e) ∙ d.0) in
          omega (arith, step, here, none)
      | inr e ↦ let here : once q n ≡ 0 = ap (λ b. cond b 1 0) e in omega (arith, step, here, rest)
    ]
  where
    not_counted : (ns : List Name) (q : Name) → has ns q ≡ false → count_by (same_name q) ns ≡ 0
    not_counted [] q e = refl
    not_counted (n ∷ ns) q e =
        let parts = or_false (same_name q n) (has ns q) e in
        let step = sum_by-cons (λ m. cond (same_name q m) 1 0) n ns in
        let here : once q n ≡ 0 = ap (λ b. cond b 1 0) parts.0 in
        let rest = not_counted ns q parts.1 in
        omega (arith, step, here, rest)

pub counted_had : (ns : List Name) (q : Name) → IsTrue (has ns q) → 1 ≤ count_by (same_name q) ns
counted_had [] q h = absurd (cc)
counted_had (n ∷ ns) q h =
    let step = sum_by-cons (λ m. cond (same_name q m) 1 0) n ns in
    elim (or_cases (same_name q n) (has ns q) h) [
      | inl e ↦ let here : once q n ≡ 1 = ap (λ b. cond b 1 0) e in omega (arith, step, here)
      | inr k ↦ let rest = counted_had ns q k in omega (arith, step, rest)
    ]

pub distinct_counted : (ns : List Name) → ((q : Name) → count_by (same_name q) ns ≤ 1) → IsDistinct ns
distinct_counted [] few = tt
distinct_counted (n ∷ ns) few = (
  false_from_ne_true (has ns n) (λ h.
      let step = sum_by-cons (λ m. cond (same_name n m) 1 0) n ns in
      let here : once n n ≡ 1 = ap (λ b. cond b 1 0) (same_itself n) in
      let rest = counted_had ns n h in
      let all = few n in
      absurd (omega (arith, step, here, rest, all))),
  distinct_counted ns (λ q. let step = sum_by-cons (λ m. cond (same_name q m) 1 0) n ns in let all = few q in omega (arith, step, all)),
)

-- a list in another order has none twice either
pub distinct_permuted : (ns ms : List Name) → IsPermutation ns ms → IsDistinct ns → IsDistinct ms
distinct_permuted ns ms h d = distinct_counted ms (λ q.
    let same = sum_by-IsPermutation (λ m. cond (same_name q m) 1 0) ns ms h in
    let once = counted_once ns q d in
    omega (arith, same, once))

-- ---- fields

pub same_field_itself : (w : Field) → same_field w w ≡ true
same_field_itself w = grind arith

pub same_fields : (v w : Field) → IsTrue (same_field v w) → v ≡ w
same_fields v w e =
    let both = and_parts (same_name v.0 w.0) (nat_eq v.1 w.1) e in
    let p = same_names v.0 w.0 both.0 in
    let q : v.1 ≡ w.1 = grind (arith, both) in
    λ i. (p i, q i)

pub field_split : (w : Field) (ws : List Field) (q : Field) → IsTrue (has_field (w ∷ ws) q) → (q ≡ w) ⊎ IsTrue (has_field ws q)
field_split w ws q h = elim (or_cases (same_field q w) (has_field ws q) h) [ inl e ↦ inl (same_fields q w e) | inr k ↦ inr k ]

pub first_field : (w : Field) (ws : List Field) → IsTrue (has_field (w ∷ ws) w)
first_field w ws = or_left (same_field w w) (has_field ws w) (same_field_itself w)

pub later_field : (w : Field) (ws : List Field) (q : Field) → IsTrue (has_field ws q) → IsTrue (has_field (w ∷ ws) q)
later_field w ws q h = or_right (same_field q w) (has_field ws q) h

-- a field that joins the others: it is there, each other stays, no more are there, and none stands twice
pub with_field_new : (ws : List Field) (w : Field) → IsTrue (has_field (with_field ws w) w)
with_field_new ws w = elim (has_field ws w) as (λ b. has_field ws w ≡ b → IsTrue (has_field (cond b ws (w ∷ ws)) w)) [
  | true ↦ λ e. e
  | false ↦ λ e. first_field w ws
] refl

pub with_field_old : (ws : List Field) (w q : Field) → IsTrue (has_field ws q) → IsTrue (has_field (with_field ws w) q)
with_field_old ws w q h = elim (has_field ws w) as (λ b. IsTrue (has_field (cond b ws (w ∷ ws)) q)) [
  | true ↦ h
  | false ↦ later_field w ws q h
]

pub with_field_split : (ws : List Field) (w q : Field) → IsTrue (has_field (with_field ws w) q) → (q ≡ w) ⊎ IsTrue (has_field ws q)
with_field_split ws w q = elim (has_field ws w) as (λ b. IsTrue (has_field (cond b ws (w ∷ ws)) q) → (q ≡ w) ⊎ IsTrue (has_field ws q)) [
  | true ↦ λ h. inr h
  | false ↦ λ h. field_split w ws q h
]

pub with_field_distinct : (ws : List Field) (w : Field) → AreDistinctFields ws → AreDistinctFields (with_field ws w)
with_field_distinct ws w d = elim (has_field ws w) as (λ b. has_field ws w ≡ b → AreDistinctFields (cond b ws (w ∷ ws))) [
  | true ↦ λ e. d
  | false ↦ λ e. (e, d)
] refl
