-- A name's serial is where it stands among names in order, and that is found by halves.
use Rattle.std.proofs.Common.{◌≡◌, ℕ, zero, suc, ◌+◌, ◌-◌, ◌^◌, ◌<◌, ◌≤◌, ◌⊎◌, inl, inr, refl, sym, ap, subst, ◌∙◌, arith, true, false, cond, List, [], ◌∷◌, IsTrue, length, map, get_or, Some, None}
use Rattle.std.specs.Prelude.{slice_get}
use Rattle.std.specs.List.{AllByRecursion}
use Rattle.std.specs.List.Sorted.{IsStrictlySortedBy}
use Rattle.std.specs.Ordering.{is_lt, is_some_and, nat_cmp, ordering_then, partial_lt, partial_ordering_then}
use Rattle.std.specs.declared.cmp.Ordering.{Ordering}
use Rattle.std.specs.declared.cmp.Ordering.TheVariants.{Equal, Greater, Less}
use Rattle.std.proofs.lemmas.Bool.{or_cases}
use Rattle.std.proofs.lemmas.Bool.Decides.{nat_tests}
use Rattle.std.proofs.lemmas.List.{length-map}
use Rattle.lxr_layout.specs.contracts.NamePartialOrd.TheImpl
use Rattle.lxr_layout.specs.declared.Name.{Name}
use Rattle.lxr_graph.specs.declared.report.Count.{Count}
use Rattle.lxr_graph.specs.Names.{AreInOrder, has, name_order, same_name}
use Rattle.lxr_graph.specs.State.{world_name}
use Rattle.lxr_graph.proofs.NameSets.{order_both, order_itself, same_names}
use Rattle.lxr_graph.specs.Renewing.{renewed_name, serial_in}
use Rattle.lxr_large_model.specs.Renewing.{AreCounted, counted_name}

-- ---- lists in order

all_at : (P : Name → Type 0) (ns : List Name) (k : ℕ) (n : Name) → AllByRecursion P ns → slice_get ns k ≡ Some n → P n
all_at P [] k n all e = cc
all_at P (m ∷ ms) zero n all e = let same : m ≡ n = cc in subst P same all.0
all_at P (m ∷ ms) (suc k) n all e = all_at P ms k n all.1 e

-- of two names that stand in order the first comes before the second
pub order_at : (ns : List Name) (i j : ℕ) (a b : Name) → AreInOrder ns → i < j → slice_get ns i ≡ Some a → slice_get ns j ≡ Some b → name_order a b ≡ Less
unfolding IsStrictlySortedBy
order_at [] i j a b o lt p q = cc
order_at (m ∷ ms) zero zero a b o lt p q = absurd (omega (arith, lt))
order_at (m ∷ ms) zero (suc j) a b o lt p q = let same : m ≡ a = cc in subst (λ x. name_order x b ≡ Less) same (all_at (λ x. name_order m x ≡ Less) ms j b o.0 q)
order_at (m ∷ ms) (suc i) zero a b o lt p q = absurd (omega (arith, lt))
order_at (m ∷ ms) (suc i) (suc j) a b o lt p q = order_at ms i j a b o.1 (omega (arith, lt)) p q

-- ---- serials

-- a serial is 1 at least
pub serial_some : (ns : List Name) (n : Name) → 1 ≤ serial_in ns n
serial_some [] n = omega arith
serial_some (m ∷ ms) n = elim (same_name n m) as (λ b. 1 ≤ cond b 1 (suc (serial_in ms n))) [ true ↦ omega arith | false ↦ omega arith ]

-- and tells where the name stands
pub serial_tells : (ns : List Name) (n : Name) → IsTrue (has ns n) → (serial_in ns n ≤ length ns) × (slice_get ns (serial_in ns n - 1) ≡ Some n)
serial_tells [] n h = absurd (cc)
serial_tells (m ∷ ms) n h = elim (same_name n m) as (λ b. same_name n m ≡ b → (cond b 1 (suc (serial_in ms n)) ≤ length (m ∷ ms)) × (slice_get (m ∷ ms) (cond b 1 (suc (serial_in ms n)) - 1) ≡ Some n)) [
  | true ↦ λ e. (omega arith, ap Some (sym (same_names n m e)))
  | false ↦ λ e. elim (or_cases (same_name n m) (has ms n) h) [
    | inl k ↦ absurd (cc)
    | inr k ↦
        let rest = serial_tells ms n k in
        let le = rest.0 in
        let some = serial_some ms n in
        let step : suc (serial_in ms n) - 1 ≡ suc (serial_in ms n - 1) = omega (arith, some) in
        (omega (arith, le), ap (λ i. slice_get (m ∷ ms) i) step ∙ rest.1)
  ]
] refl

-- ---- found by halves

-- one name is below another where it comes before it
pub below_is_before : (a b : Name) → partial_lt TheImpl.partial_cmp-value.it a b ≡ is_lt (name_order a b)
below_is_before a b = by_thread (nat_cmp a.thread b.thread) (nat_cmp a.serial b.serial)
  where
    by_thread : (x y : Ordering) → is_some_and is_lt (partial_ordering_then (Some x) (Some y)) ≡ is_lt (ordering_then x y)
    by_thread Less y = refl
    by_thread Equal y = refl
    by_thread Greater y = refl

-- of the names below one index all come before a name, and of those from another on none does
pub record Halves (ns : List Name) (n : Name) (from end : ℕ) : Type 0 where
  pub upwards : from ≤ end
  pub within : end ≤ length ns
  pub below : (k : ℕ) (m : Name) → k < from → slice_get ns k ≡ Some m → is_lt (name_order m n) ≡ true
  pub above : (k : ℕ) (m : Name) → end ≤ k → slice_get ns k ≡ Some m → is_lt (name_order m n) ≡ false

past : (ns : List Name) (k : ℕ) (m : Name) → length ns ≤ k → slice_get ns k ≡ Some m → ⊥
past [] k m le p = cc
past (x ∷ xs) zero m le p = absurd (omega (arith, le))
past (x ∷ xs) (suc k) m le p = past xs k m (omega (arith, le)) p

pub halves_first : (ns : List Name) (n : Name) → Halves ns n 0 (length ns)
halves_first ns n = record {
  upwards = omega arith;
  within = omega arith;
  below = λ k m lt p. absurd (omega (arith, lt));
  above = λ k m le p. absurd (past ns k m le p);
}

ordered : (k at : ℕ) → (k < at) ⊎ ((k ≡ at) ⊎ (at < k))
ordered k at = grind arith

lower_too : (a b n : Name) → name_order a b ≡ Less → is_lt (name_order b n) ≡ true → is_lt (name_order a n) ≡ true
lower_too a b n h k = grind (arith, nat_tests)

upper_too : (a b n : Name) → name_order a b ≡ Less → is_lt (name_order a n) ≡ false → is_lt (name_order b n) ≡ false
upper_too a b n h k = grind (arith, nat_tests)

same_at : (ns : List Name) (i j : ℕ) (a b : Name) → i ≡ j → slice_get ns i ≡ Some a → slice_get ns j ≡ Some b → a ≡ b
same_at ns i j a b e p q = let r : Some a ≡ Some b = sym p ∙ ap (slice_get ns) e ∙ q in cc

pub halves_upper : (ns : List Name) (n : Name) (from end middle : ℕ) (x : Name) → AreInOrder ns → from ≤ middle → middle < end → slice_get ns middle ≡ Some x → is_lt (name_order x n) ≡ true
    → Halves ns n from end → Halves ns n (middle + 1) end
halves_upper ns n from end middle x o le lt is less so_far = record {
  upwards = omega (arith, lt);
  within = so_far.within;
  below = λ k m under p. below k m p under (ordered k middle);
  above = so_far.above;
}
  where
    below : (k : ℕ) (m : Name) → slice_get ns k ≡ Some m → k < middle + 1 → (k < middle) ⊎ ((k ≡ middle) ⊎ (middle < k)) → is_lt (name_order m n) ≡ true
    below k m p under (inl lower) = lower_too m x n (order_at ns k middle m x o lower p is) less
    below k m p under (inr (inl here)) = subst (λ y. is_lt (name_order y n) ≡ true) (sym (same_at ns k middle m x here p is)) less
    below k m p under (inr (inr upper)) = absurd (omega (arith, under, upper))

pub halves_lower : (ns : List Name) (n : Name) (from end middle : ℕ) (x : Name) → AreInOrder ns → from ≤ middle → middle < end → slice_get ns middle ≡ Some x → is_lt (name_order x n) ≡ false
    → Halves ns n from end → Halves ns n from middle
halves_lower ns n from end middle x o le lt is more so_far = record {
  upwards = le;
  within = let w = so_far.within in omega (arith, lt, w);
  below = so_far.below;
  above = λ k m under p. above k m p under (ordered k middle);
}
  where
    above : (k : ℕ) (m : Name) → slice_get ns k ≡ Some m → middle ≤ k → (k < middle) ⊎ ((k ≡ middle) ⊎ (middle < k)) → is_lt (name_order m n) ≡ false
    above k m p under (inl lower) = absurd (omega (arith, under, lower))
    above k m p under (inr (inl here)) = subst (λ y. is_lt (name_order y n) ≡ false) (sym (same_at ns k middle m x here p is)) more
    above k m p under (inr (inr upper)) = upper_too x m n (order_at ns middle k x m o upper is p) more

not_itself : (n : Name) → is_lt (name_order n n) ≡ false
not_itself n = grind (arith, nat_tests)

before_test : (a b : Name) → name_order a b ≡ Less → is_lt (name_order a b) ≡ true
before_test a b h = ap is_lt h

-- where both halves meet stands the name, if it is one of the names
pub halves_meet : (ns : List Name) (n : Name) (from end : ℕ) → AreInOrder ns → IsTrue (has ns n) → end ≤ from → Halves ns n from end → from + 1 ≡ serial_in ns n
halves_meet ns n from end o h met halves =
    let tells = serial_tells ns n h in
    let le = tells.0 in
    let some = serial_some ns n in
    let up = halves.upwards in
    elim (ordered (serial_in ns n - 1) from) [
      | inl lower ↦ let no : true ≡ false = sym (halves.below (serial_in ns n - 1) n lower tells.1) ∙ not_itself n in absurd (cc)
      | inr (inl here) ↦ omega (arith, here, some)
      | inr (inr upper) ↦
          let there = name_at ns from (omega (arith, upper, le)) in
          let less = before_test there.0 n (order_at ns from (serial_in ns n - 1) there.0 n o upper there.1 tells.1) in
          let no : true ≡ false = sym less ∙ halves.above from there.0 (omega (arith, met)) there.1 in
          absurd (cc)
    ]
  where
    name_at : (ns : List Name) (k : ℕ) → k < length ns → (m : Name) × (slice_get ns k ≡ Some m)
    name_at [] k lt = absurd (omega (arith, lt))
    name_at (m ∷ ms) zero lt = (m, refl)
    name_at (m ∷ ms) (suc k) lt = name_at ms k (omega (arith, lt))

-- of two names the first in order has the lower serial
pub serial_less : (ns : List Name) (a b : Name) → AreInOrder ns → IsTrue (has ns a) → IsTrue (has ns b) → name_order a b ≡ Less → serial_in ns a < serial_in ns b
serial_less ns a b o in_a in_b less =
    let some = serial_some ns a in
    let some' = serial_some ns b in
    elim (ordered (serial_in ns a) (serial_in ns b)) [
      | inl lower ↦ lower
      | inr (inl same) ↦ order_itself b (subst (λ x. name_order x b ≡ Less) (same_at ns (serial_in ns a - 1) (serial_in ns b - 1) a b (omega (arith, same)) (serial_tells ns a in_a).1 (serial_tells ns b in_b).1) less)
      | inr (inr upper) ↦ order_both a b less (order_at ns (serial_in ns b - 1) (serial_in ns a - 1) b a o (omega (arith, upper, some, some')) (serial_tells ns b in_b).1 (serial_tells ns a in_a).1)
    ]

-- ---- new names

-- the first of all is the world, which keeps its name
pub first_is_world : (ns : List Name) (n : Name) → 0 + 1 ≡ serial_in (world_name ∷ ns) n → renewed_name ns n ≡ n
first_is_world ns n e = elim (same_name n world_name) as (λ b. 0 + 1 ≡ cond b 1 (suc (serial_in ns n)) → cond b n (record { thread = 1; serial = serial_in ns n }) ≡ n) [
  | true ↦ λ k. refl
  | false ↦ λ k. let some = serial_some ns n in absurd (omega (arith, k, some))
] e

-- and another one's place is its serial
pub other_is_renewed : (ns : List Name) (n : Name) (at : ℕ) → 1 ≤ at → at + 1 ≡ serial_in (world_name ∷ ns) n → renewed_name ns n ≡ record { thread = 1; serial = at }
other_is_renewed ns n at some e = elim (same_name n world_name) as (λ b. at + 1 ≡ cond b 1 (suc (serial_in ns n)) → cond b n (record { thread = 1; serial = serial_in ns n }) ≡ record { thread = 1; serial = at }) [
  | true ↦ λ k. absurd (omega (arith, k, some))
  | false ↦ λ k. ap (λ i. record { thread = 1; serial = i }) (omega (arith, k))
] e

-- what is read past all counts
abbrev pub no_count : Count
no_count = record { name = world_name; count = None }

-- a count's name stands among the names where the count does
pub name_at : (cs : List Count) (k : ℕ) → k < length cs → slice_get (map counted_name cs) k ≡ Some (get_or cs k no_count).name
name_at [] k lt = absurd (omega (arith, lt))
name_at (c ∷ cs) zero lt = refl
name_at (c ∷ cs) (suc k) lt = name_at cs k (omega (arith, lt))

-- a name that is counted stands below as many as there are counts
pub counted_below : (cs : List Count) (n : Name) (at : ℕ) → IsTrue (has (map counted_name cs) n) → at + 1 ≡ serial_in (map counted_name cs) n → at < length cs
counted_below cs n at h e = let le = (serial_tells (map counted_name cs) n h).0 in let same = length-map cs counted_name in omega (arith, le, same, e)

pub counts_few : (cs : List Count) (ns : List Name) → AreCounted cs ns → length cs ≤ 2 ^ 32
counts_few cs ns is = let few = is.few in let same = length-map cs counted_name in let all = ap length is.names in omega (arith, few, same, all)
