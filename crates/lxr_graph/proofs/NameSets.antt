-- Lists of names as sets: what has a name, and when a list is in order. Two lists in order with the same names are one.
use Rattle.std.proofs.Common.{◌≡◌, refl, sym, ap, ◌∙◌, inl, inr, ◌⊎◌, arith, Bool, true, false, cond, List, [], ◌∷◌, IsTrue, subst}
use Rattle.std.specs.Prelude.{not, ◌&&◌, ◌||◌, ◌↔◌}
use Rattle.std.specs.List.{AllByRecursion}
use Rattle.std.specs.List.Sorted.{IsStrictlySortedBy}
use Rattle.std.specs.Ordering.{is_lt}
use Rattle.std.specs.declared.cmp.Ordering.TheVariants.{Less}
use Rattle.std.proofs.lemmas.Bool.{and_parts, and_from, not-true, not_from_false, or_cases, or_left, or_right, false_from_ne_true}
use Rattle.std.proofs.lemmas.List.Kept.{IsStrictlySortedBy-filter}
use Rattle.std.proofs.lemmas.Bool.Decides.{nat_tests}
use Rattle.lxr_layout.specs.declared.Name.{Name}
use Rattle.lxr_graph.specs.Distinct.{IsDistinct}
use Rattle.lxr_graph.specs.Names.{same_name, has, without, insert_name, union, name_order, AreInOrder, IsSetOf}

-- ---- tests

pub not_both : {P : Type 0} (b : Bool) → IsTrue b → b ≡ false → P
not_both b h e = cc

or_swap : (a b c : Bool) → (a || (b || c)) ≡ (b || (a || c))
or_swap true true c = refl
or_swap true false c = refl
or_swap false b c = refl

or_same : (a b c : Bool) → (a ≡ true → b ≡ true) → (b || c) ≡ (a || (b || c))
or_same true b c h = rw (h refl) refl
or_same false b c h = refl

or_assoc : (a b c : Bool) → (a || (b || c)) ≡ ((a || b) || c)
or_assoc true b c = refl
or_assoc false b c = refl

-- ---- names

pub same_itself : (a : Name) → same_name a a ≡ true
same_itself a = grind arith

pub same_names : (a b : Name) → IsTrue (same_name a b) → a ≡ b
same_names a b e =
    let p : a.thread ≡ b.thread = grind arith in
    let q : a.serial ≡ b.serial = grind arith in
    λ i. record { thread = p i; serial = q i }

pub order_itself : {P : Type 0} (a : Name) → name_order a a ≡ Less → P
order_itself a h = absurd (grind (arith, nat_tests))

pub order_both : {P : Type 0} (a b : Name) → name_order a b ≡ Less → name_order b a ≡ Less → P
order_both a b h k = absurd (grind (arith, nat_tests))

-- a name that neither stands before another nor is it stands behind it
order_else : (a b : Name) → is_lt (name_order b a) ≡ false → same_name a b ≡ false → name_order a b ≡ Less
order_else a b h k = grind (arith, nat_tests)

order_from_test : (a b : Name) → is_lt (name_order a b) ≡ true → name_order a b ≡ Less
order_from_test a b h = grind (arith, nat_tests)

order_through : (a b c : Name) → name_order a b ≡ Less → name_order b c ≡ Less → name_order a c ≡ Less
order_through a b c h k = grind (arith, nat_tests)

-- ---- what a list has

pub first_has : (n : Name) (ns : List Name) → IsTrue (has (n ∷ ns) n)
first_has n ns = or_left (same_name n n) (has ns n) (same_itself n)

pub later_has : (n : Name) (ns : List Name) (q : Name) → IsTrue (has ns q) → IsTrue (has (n ∷ ns) q)
later_has n ns q h = or_right (same_name q n) (has ns q) h

pub has_split : (n : Name) (ns : List Name) (q : Name) → IsTrue (has (n ∷ ns) q) → (q ≡ n) ⊎ IsTrue (has ns q)
has_split n ns q h = elim (or_cases (same_name q n) (has ns q) h) [ inl e ↦ inl (same_names q n e) | inr k ↦ inr k ]

has-insert : (n : Name) (ms : List Name) (q : Name) → has (insert_name n ms) q ≡ (same_name q n || has ms q)
has-insert n [] q = refl
has-insert n (m ∷ ms) q =
    elim (is_lt (name_order m n)) as (λ b. has (cond b (m ∷ insert_name n ms) (cond (same_name n m) (m ∷ ms) (n ∷ m ∷ ms))) q ≡ (same_name q n || has (m ∷ ms) q)) [
      | true ↦ ap (λ b. same_name q m || b) (has-insert n ms q) ∙ or_swap (same_name q m) (same_name q n) (has ms q)
      | false ↦ elim (same_name n m) as (λ b. same_name n m ≡ b → has (cond b (m ∷ ms) (n ∷ m ∷ ms)) q ≡ (same_name q n || has (m ∷ ms) q)) [
        | true ↦ λ e. or_same (same_name q n) (same_name q m) (has ms q) (λ k. ap (λ x. same_name x m) (same_names q n k) ∙ e)
        | false ↦ λ e. refl
      ] refl
    ]

pub has-union : (ns ms : List Name) (q : Name) → has (union ns ms) q ≡ (has ns q || has ms q)
has-union [] ms q = refl
has-union (n ∷ ns) ms q = has-insert n (union ns ms) q ∙ ap (λ b. same_name q n || b) (has-union ns ms q) ∙ or_assoc (same_name q n) (has ns q) (has ms q)

pub insert_cases : (n : Name) (ms : List Name) (q : Name) → IsTrue (has (insert_name n ms) q) → (q ≡ n) ⊎ IsTrue (has ms q)
insert_cases n ms q h = elim (or_cases (same_name q n) (has ms q) (sym (has-insert n ms q) ∙ h)) [ inl e ↦ inl (same_names q n e) | inr k ↦ inr k ]

pub insert_new : (n : Name) (ms : List Name) → IsTrue (has (insert_name n ms) n)
insert_new n ms = has-insert n ms n ∙ or_left (same_name n n) (has ms n) (same_itself n)

pub insert_old : (n : Name) (ms : List Name) (q : Name) → IsTrue (has ms q) → IsTrue (has (insert_name n ms) q)
insert_old n ms q h = has-insert n ms q ∙ or_right (same_name q n) (has ms q) h

pub union_cases : (ns ms : List Name) (q : Name) → IsTrue (has (union ns ms) q) → IsTrue (has ns q) ⊎ IsTrue (has ms q)
union_cases ns ms q h = or_cases (has ns q) (has ms q) (sym (has-union ns ms q) ∙ h)

pub union_left : (ns ms : List Name) (q : Name) → IsTrue (has ns q) → IsTrue (has (union ns ms) q)
union_left ns ms q h = has-union ns ms q ∙ or_left (has ns q) (has ms q) h

pub union_right : (ns ms : List Name) (q : Name) → IsTrue (has ms q) → IsTrue (has (union ns ms) q)
union_right ns ms q h = has-union ns ms q ∙ or_right (has ns q) (has ms q) h

pub has_one : (n q : Name) → IsTrue (has (n ∷ []) q) → q ≡ n
has_one n q h = elim (or_cases (same_name q n) false h) [ inl e ↦ same_names q n e | inr k ↦ absurd (cc) ]

and_false : (a : Bool) → (a && false) ≡ false
and_false true = refl
and_false false = refl

kept_test : (t b o rest : Bool) → (t ≡ true → o ≡ b) → cond (not b) (t || (rest && not o)) (rest && not o) ≡ ((t || rest) && not o)
kept_test true true o rest h = let e = h refl in rw e (and_false rest)
kept_test true false o rest h = let e = h refl in rw e refl
kept_test false true o rest h = refl
kept_test false false o rest h = refl

has-cond : (b : Bool) (x : Name) (xs : List Name) (q : Name) → has (cond b (x ∷ xs) xs) q ≡ cond b (same_name q x || has xs q) (has xs q)
has-cond true x xs q = refl
has-cond false x xs q = refl

pub has-without : (ns out : List Name) (q : Name) → has (without ns out) q ≡ (has ns q && not (has out q))
has-without [] out q = refl
has-without (x ∷ ns) out q =
    has-cond (not (has out x)) x (without ns out) q
    ∙ ap (λ r. cond (not (has out x)) (same_name q x || r) r) (has-without ns out q)
    ∙ kept_test (same_name q x) (has out x) (has out q) (has ns q) (λ e. ap (has out) (same_names q x e))

pub without_parts : (ns out : List Name) (q : Name) → IsTrue (has (without ns out) q) → IsTrue (has ns q) × (has out q ≡ false)
without_parts ns out q h = let both = and_parts (has ns q) (not (has out q)) (sym (has-without ns out q) ∙ h) in (both.0, not-true (has out q) both.1)

pub in_without : (ns out : List Name) (q : Name) → IsTrue (has ns q) → (IsTrue (has out q) → ⊥) → IsTrue (has (without ns out) q)
in_without ns out q h k = has-without ns out q ∙ and_from (has ns q) (not (has out q)) h (not_from_false (has out q) (false_from_ne_true (has out q) k))

-- ---- order

pub in_order-none : AreInOrder []
unfolding IsStrictlySortedBy
in_order-none = tt

pub in_order-one : (n : Name) → AreInOrder (n ∷ [])
unfolding IsStrictlySortedBy
in_order-one n = (tt, tt)

all_insert : (P : Name → Type 0) (n : Name) (ms : List Name) → P n → AllByRecursion P ms → AllByRecursion P (insert_name n ms)
all_insert P n [] p a = (p, tt)
all_insert P n (m ∷ ms) p a =
    elim (is_lt (name_order m n)) as (λ b. AllByRecursion P (cond b (m ∷ insert_name n ms) (cond (same_name n m) (m ∷ ms) (n ∷ m ∷ ms)))) [
      | true ↦ (a.0, all_insert P n ms p a.1)
      | false ↦ elim (same_name n m) as (λ b. AllByRecursion P (cond b (m ∷ ms) (n ∷ m ∷ ms))) [ true ↦ a | false ↦ (p, a) ]
    ]

all_through : (n m : Name) (ms : List Name) → name_order n m ≡ Less → AllByRecursion (λ q. name_order m q ≡ Less) ms → AllByRecursion (λ q. name_order n q ≡ Less) ms
all_through n m [] h a = tt
all_through n m (q ∷ ms) h a = (order_through n m q h a.0, all_through n m ms h a.1)

pub in_order-insert : (n : Name) (ms : List Name) → AreInOrder ms → AreInOrder (insert_name n ms)
unfolding IsStrictlySortedBy
in_order-insert n [] o = (tt, tt)
in_order-insert n (m ∷ ms) o =
    elim (is_lt (name_order m n)) as (λ b. is_lt (name_order m n) ≡ b → AreInOrder (cond b (m ∷ insert_name n ms) (cond (same_name n m) (m ∷ ms) (n ∷ m ∷ ms)))) [
      | true ↦ λ e. (all_insert (λ q. name_order m q ≡ Less) n ms (order_from_test m n e) o.0, in_order-insert n ms o.1)
      | false ↦ λ e. elim (same_name n m) as (λ b. same_name n m ≡ b → AreInOrder (cond b (m ∷ ms) (n ∷ m ∷ ms))) [
        | true ↦ λ k. o
        | false ↦ λ k. let l = order_else n m e k in ((l, all_through n m ms l o.0), o)
      ] refl
    ] refl

pub in_order-union : (ns ms : List Name) → AreInOrder ms → AreInOrder (union ns ms)
in_order-union [] ms o = o
in_order-union (n ∷ ns) ms o = in_order-insert n (union ns ms) (in_order-union ns ms o)

pub in_order-without : (ns out : List Name) → AreInOrder ns → AreInOrder (without ns out)
in_order-without ns out o = IsStrictlySortedBy-filter name_order (λ n. not (has out n)) ns o

-- ---- one list for one set

behind : (n : Name) (ms : List Name) (q : Name) → AllByRecursion (λ m. name_order n m ≡ Less) ms → IsTrue (has ms q) → name_order n q ≡ Less
behind n [] q a h = absurd (cc)
behind n (m ∷ ms) q a h = elim (or_cases (same_name q m) (has ms q) h) [
  | inl e ↦ subst (λ x. name_order n x ≡ Less) (sym (same_names q m e)) a.0
  | inr k ↦ behind n ms q a.1 k
]

-- names in order stand there once each
pub in_order_distinct : (ns : List Name) → AreInOrder ns → IsDistinct ns
unfolding IsStrictlySortedBy
in_order_distinct [] o = tt
in_order_distinct (n ∷ ns) o = (false_from_ne_true (has ns n) (λ h. order_itself n (behind n ns n o.0 h)), in_order_distinct ns o.1)

-- what a list has behind its first name, another list with the same names and that first name has behind it too
tail_names : (n : Name) (ns ms : List Name) (q : Name) → AllByRecursion (λ m. name_order n m ≡ Less) ns
    → (IsTrue (has (n ∷ ns) q) → IsTrue (has (n ∷ ms) q)) → IsTrue (has ns q) → IsTrue (has ms q)
tail_names n ns ms q a f h = elim (or_cases (same_name q n) (has ms q) (f (or_right (same_name q n) (has ns q) h))) [
  | inl e ↦ order_itself n (subst (λ x. name_order n x ≡ Less) (same_names q n e) (behind n ns q a h))
  | inr k ↦ k
]

same_firsts : (n m : Name) (ns ms : List Name) → AreInOrder (n ∷ ns) → AreInOrder (m ∷ ms)
    → ((q : Name) → IsTrue (has (n ∷ ns) q) ↔ IsTrue (has (m ∷ ms) q)) → n ≡ m
unfolding IsStrictlySortedBy
same_firsts n m ns ms o p same = elim (or_cases (same_name n m) (has ms n) ((same n).0 (first_has n ns))) [
  | inl e ↦ same_names n m e
  | inr h ↦ elim (or_cases (same_name m n) (has ns m) ((same m).1 (first_has m ms))) [
    | inl e ↦ sym (same_names m n e)
    | inr k ↦ order_both n m (behind n ns m o.0 k) (behind m ms n p.0 h)
  ]
]

pub one_list : (ns ms : List Name) → AreInOrder ns → AreInOrder ms → ((q : Name) → IsTrue (has ns q) ↔ IsTrue (has ms q)) → ns ≡ ms
unfolding IsStrictlySortedBy
one_list [] [] o p same = refl
one_list [] (m ∷ ms) o p same = let h : IsTrue (has [] m) = (same m).1 (first_has m ms) in absurd (cc)
one_list (n ∷ ns) [] o p same = let h : IsTrue (has [] n) = (same n).0 (first_has n ns) in absurd (cc)
one_list (n ∷ ns) (m ∷ ms) o p same =
    let e : n ≡ m = same_firsts n m ns ms o p same in
    let p' : AreInOrder (n ∷ ms) = subst (λ x. AreInOrder (x ∷ ms)) (sym e) p in
    let same' : (q : Name) → IsTrue (has (n ∷ ns) q) ↔ IsTrue (has (n ∷ ms) q) = subst (λ x. (q : Name) → IsTrue (has (n ∷ ns) q) ↔ IsTrue (has (x ∷ ms) q)) (sym e) same in
    let rest : ns ≡ ms = one_list ns ms o.1 p'.1 (λ q. (tail_names n ns ms q o.0 (same' q).0, tail_names n ms ns q p'.0 (same' q).1)) in
    λ i. e i ∷ rest i

pub one_set : {P : Name → Type 0} {ns ms : List Name} → IsSetOf ns P → IsSetOf ms P → ns ≡ ms
one_set {P} {ns} {ms} a b = one_list ns ms a.in_order b.in_order (λ q. (λ h. (b.members q).1 ((a.members q).0 h), λ h. (a.members q).1 ((b.members q).0 h)))
