-- Each name that is left has one new name, no two have the same, and new names stand in the order of the old ones.
use Rattle.std.proofs.Common.{◌≡◌, ℕ, zero, suc, ◌+◌, ◌-◌, ◌<◌, ◌≤◌, inl, inr, refl, sym, ap, subst, ◌∙◌, arith, false, cond, List, [], ◌∷◌, IsTrue, length, map, nat_eq}
use Rattle.std.specs.Prelude.{Option, Some, None, slice_get, slice_index_or}
use Rattle.std.specs.List.{AllByRecursion}
use Rattle.std.specs.List.Sorted.{IsStrictlySortedBy}
use Rattle.std.specs.declared.cmp.Ordering.TheVariants.{Less}
use Rattle.std.proofs.lemmas.Bool.{false_from_ne_true}
use Rattle.std.proofs.lemmas.Bool.Decides.{nat_tests}
use Rattle.lxr_layout.specs.declared.Name.{Name}
use Rattle.lxr_graph.specs.Names.{AreInOrder, has, name_order, same_held, same_name}
use Rattle.lxr_graph.specs.State.{world_name}
use Rattle.lxr_graph.proofs.NameSets.{not_both, order_both, order_itself, same_itself, same_names}
use Rattle.lxr_model_counting.specs.Distinct.{IsDistinct}
use Rattle.lxr_model_counting.proofs.DistinctLemmas.{first_has, has_split, in_order_distinct, later_has, tested}
use Rattle.lxr_graph.specs.Renewing.{renewed_held, renewed_name, serial_in}
use Rattle.lxr_large_model.proofs.SerialLemmas.{serial_less, serial_tells}

-- ---- lists that are mapped

pub has_map : (f : Name → Name) (ns : List Name) (n : Name) → IsTrue (has ns n) → IsTrue (has (map f ns) (f n))
has_map f [] n h = absurd (cc)
has_map f (m ∷ ms) n h = elim (has_split m ms n h) [
  | inl e ↦ subst (λ q. IsTrue (has (f m ∷ map f ms) (f q))) (sym e) (first_has (f m) (map f ms))
  | inr k ↦ later_has (f m) (map f ms) (f n) (has_map f ms n k)
]

pub map_has : (f : Name → Name) (ns : List Name) (q : Name) → IsTrue (has (map f ns) q) → (n : Name) × IsTrue (has ns n) × (q ≡ f n)
map_has f [] q h = absurd (cc)
map_has f (m ∷ ms) q h = elim (has_split (f m) (map f ms) q h) [
  | inl e ↦ (m, first_has m ms, e)
  | inr k ↦ let x = map_has f ms q k in (x.0, later_has m ms x.0 x.1, x.2)
]

map_on : (f g : Name → Name) (ns : List Name) → ((n : Name) → IsTrue (has ns n) → f n ≡ g n) → map f ns ≡ map g ns
map_on f g [] same = refl
map_on f g (m ∷ ms) same = λ i. same m (first_has m ms) i ∷ map_on f g ms (λ n h. same n (later_has m ms n h)) i

-- ---- the world first

-- nothing comes before the world
world_first : (n : Name) → name_order n world_name ≡ Less → ⊥
world_first n h = grind (arith, nat_tests)

-- so it isn't among names that come after another
after_first : (m : Name) (ms : List Name) → AllByRecursion (λ q. name_order m q ≡ Less) ms → IsTrue (has ms world_name) → ⊥
after_first m [] all h = absurd (cc)
after_first m (q ∷ qs) all h = elim (has_split q qs world_name h) [
  | inl e ↦ world_first m (subst (λ z. name_order m z ≡ Less) (sym e) all.0)
  | inr k ↦ after_first m qs all.1 k
]

-- names in order that have the world begin with it
pub begins_with_world : (us : List Name) → AreInOrder us → IsTrue (has us world_name) → (ns : List Name) × (us ≡ world_name ∷ ns)
unfolding IsStrictlySortedBy
begins_with_world [] order h = absurd (cc)
begins_with_world (m ∷ ms) order h = elim (has_split m ms world_name h) [
  | inl e ↦ (ms, ap (λ z. z ∷ ms) (sym e))
  | inr k ↦ absurd (after_first m ms order.0 k)
]

-- ---- names by number

-- as many names as there are in a list, with the serials behind a number
abbrev numbered : ℕ → List Name → List Name
numbered k [] = []
numbered k (n ∷ ns) = record { thread = 1; serial = k + 1 } ∷ numbered (k + 1) ns

serial_first : (m : Name) (ms : List Name) → serial_in (m ∷ ms) m ≡ 1
serial_first m ms = ap (λ b. cond b 1 (suc (serial_in ms m))) (same_itself m)

serial_later : (m : Name) (ms : List Name) (n : Name) → same_name n m ≡ false → serial_in (m ∷ ms) n ≡ suc (serial_in ms n)
serial_later m ms n other = ap (λ b. cond b 1 (suc (serial_in ms n))) other

other_name : (m : Name) (ms : List Name) (n : Name) → has ms m ≡ false → IsTrue (has ms n) → same_name n m ≡ false
other_name m ms n gone h = false_from_ne_true (same_name n m) (λ e. not_both (has ms n) h (ap (has ms) (same_names n m e) ∙ gone))

numbers : (k : ℕ) (ns : List Name) → IsDistinct ns → map (λ n. record { thread = 1; serial = k + serial_in ns n }) ns ≡ numbered k ns
numbers k [] once = refl
numbers k (m ∷ ms) once =
    let tail : map (λ n. record { thread = 1; serial = k + serial_in (m ∷ ms) n }) ms ≡ map (λ n. record { thread = 1; serial = k + 1 + serial_in ms n }) ms =
    map_on (λ n. record { thread = 1; serial = k + serial_in (m ∷ ms) n }) (λ n. record { thread = 1; serial = k + 1 + serial_in ms n }) ms
    (λ n h. let e = serial_later m ms n (other_name m ms n once.0 h) in ap (λ i. record { thread = 1; serial = i }) (omega (arith, e))) in
    let whole = tail ∙ numbers (k + 1) ms once.1 in
    λ i. record { thread = 1; serial = k + serial_first m ms i } ∷ whole i

behind_number : (j k : ℕ) (ns : List Name) → j ≤ k → AllByRecursion (λ q. name_order (record { thread = 1; serial = j }) q ≡ Less) (numbered k ns)
behind_number j k [] le = tt
behind_number j k (n ∷ ns) le = (first, behind_number j (k + 1) ns (omega (arith, le)))
  where
    first : name_order (record { thread = 1; serial = j }) (record { thread = 1; serial = k + 1 }) ≡ Less
    first = grind (arith, nat_tests)

behind_world : (k : ℕ) (ns : List Name) → AllByRecursion (λ q. name_order world_name q ≡ Less) (numbered k ns)
behind_world k [] = tt
behind_world k (n ∷ ns) = (first, behind_world (k + 1) ns)
  where
    first : name_order world_name (record { thread = 1; serial = k + 1 }) ≡ Less
    first = grind (arith, nat_tests)

numbered_in_order : (k : ℕ) (ns : List Name) → AreInOrder (numbered k ns)
unfolding IsStrictlySortedBy
numbered_in_order k [] = tt
numbered_in_order k (n ∷ ns) = (behind_number (k + 1) (k + 1) ns (omega arith), numbered_in_order (k + 1) ns)

with_world : (k : ℕ) (ns : List Name) → AreInOrder (world_name ∷ numbered k ns)
unfolding IsStrictlySortedBy
with_world k ns = (behind_world k ns, numbered_in_order k ns)

tail_in_order : (n : Name) (ns : List Name) → AreInOrder (n ∷ ns) → AllByRecursion (λ m. name_order n m ≡ Less) ns × AreInOrder ns
unfolding IsStrictlySortedBy
tail_in_order n ns o = o

-- ---- the old name of a new one

-- the k-th of these names for 1.k, and the world's for its own
abbrev pub old_name : List Name → Name → Name
old_name ns n = cond (nat_eq n.thread 0) world_name (slice_index_or ns (n.serial - 1) world_name)

read_at : (ns : List Name) (k : ℕ) (n : Name) → slice_get ns k ≡ Some n → slice_index_or ns k world_name ≡ n
read_at [] k n e = cc
read_at (m ∷ ms) zero n e = cc
read_at (m ∷ ms) (suc k) n e = read_at ms k n e

-- ---- names that are left

-- what holds of all names of a list holds of one
all_at : (P : Name → Type 0) (ns : List Name) (n : Name) → AllByRecursion P ns → IsTrue (has ns n) → P n
all_at P [] n all h = absurd (cc)
all_at P (m ∷ ms) n all h = elim (has_split m ms n h) [
  | inl e ↦ subst P (sym e) all.0
  | inr k ↦ all_at P ms n all.1 k
]

world_less : (serial : ℕ) → name_order world_name (record { thread = 1; serial = serial }) ≡ Less
world_less serial = grind (arith, nat_tests)

serials_less : (i j : ℕ) → i < j → name_order (record { thread = 1; serial = i }) (record { thread = 1; serial = j }) ≡ Less
serials_less i j lower = grind (arith, nat_tests)

module _ (ns : List Name) (order : AreInOrder (world_name ∷ ns)) where
  no_world : has ns world_name ≡ false
  no_world = (in_order_distinct (world_name ∷ ns) order).0

  -- one of these names becomes one of the thread, with its serial
  pub renewed_one : (n : Name) → IsTrue (has ns n) → renewed_name ns n ≡ record { thread = 1; serial = serial_in ns n }
  renewed_one n h = ap (λ b. cond b n (record { thread = 1; serial = serial_in ns n })) (other_name world_name ns n no_world h)

  pub one_to_one : (a b : Name) → IsTrue (has (world_name ∷ ns) a) → IsTrue (has (world_name ∷ ns) b) → renewed_name ns a ≡ renewed_name ns b → a ≡ b
  one_to_one a b in_a in_b same = elim (has_split world_name ns a in_a) [
    | inl p ↦ elim (has_split world_name ns b in_b) [
      | inl q ↦ p ∙ sym q
      | inr q ↦ let e : world_name ≡ record { thread = 1; serial = serial_in ns b } = sym (ap (renewed_name ns) p) ∙ same ∙ renewed_one b q in let no = ap (λ (x : Name). x.thread) e in absurd (omega (arith, no))
    ]
    | inr p ↦ elim (has_split world_name ns b in_b) [
      | inl q ↦ let e : record { thread = 1; serial = serial_in ns a } ≡ world_name = sym (renewed_one a p) ∙ same ∙ ap (renewed_name ns) q in let no = ap (λ (x : Name). x.thread) e in absurd (omega (arith, no))
      | inr q ↦
          let e = ap (λ (x : Name). x.serial) (sym (renewed_one a p) ∙ same ∙ renewed_one b q) in
          let both : Some a ≡ Some b = sym (serial_tells ns a p).1 ∙ ap (λ i. slice_get ns (i - 1)) e ∙ (serial_tells ns b q).1 in
          cc
    ]
  ]

  -- so two new names are the same exactly where the old ones are
  pub same_renewed : (a b : Name) → IsTrue (has (world_name ∷ ns) a) → IsTrue (has (world_name ∷ ns) b) → same_name (renewed_name ns a) (renewed_name ns b) ≡ same_name a b
  same_renewed a b in_a in_b = elim (tested (same_name a b)) [
    | inl e ↦ ap (λ q. same_name (renewed_name ns a) (renewed_name ns q)) (sym (same_names a b e)) ∙ same_itself (renewed_name ns a) ∙ sym e
    | inr e ↦
        false_from_ne_true (same_name (renewed_name ns a) (renewed_name ns b))
        (λ k. not_both (same_name a b) (ap (same_name a) (sym (one_to_one a b in_a in_b (same_names (renewed_name ns a) (renewed_name ns b) k))) ∙ same_itself a) e)
        ∙ sym e
  ]

  pub same_held_renewed : (o : Name) (r : Option Name) → IsTrue (has (world_name ∷ ns) o) → ((v : Name) → r ≡ Some v → IsTrue (has (world_name ∷ ns) v)) → same_held (Some (renewed_name ns o)) (renewed_held ns r) ≡ same_held (Some o) r
  same_held_renewed o None in_o among = refl
  same_held_renewed o (Some v) in_o among = same_renewed o v in_o (among v refl)

  -- new names stand in order
  pub renewed_in_order : AreInOrder (map (renewed_name ns) (world_name ∷ ns))
  renewed_in_order =
      let tail = tail_in_order world_name ns order in
      let e : map (renewed_name ns) ns ≡ numbered 0 ns = map_on (renewed_name ns) (λ n. record { thread = 1; serial = 0 + serial_in ns n }) ns (λ n h. renewed_one n h ∙ ap (λ i. record { thread = 1; serial = i }) (omega arith)) ∙ numbers 0 ns (in_order_distinct ns tail.1) in
      subst (λ q. AreInOrder (world_name ∷ q)) (sym e) (with_world 0 ns)

  -- and each tells its old one
  pub old_of_renewed : (n : Name) → IsTrue (has (world_name ∷ ns) n) → old_name ns (renewed_name ns n) ≡ n
  old_of_renewed n h = elim (has_split world_name ns n h) [
    | inl e ↦ ap (λ q. old_name ns (renewed_name ns q)) e ∙ sym e
    | inr k ↦ ap (old_name ns) (renewed_one n k) ∙ read_at ns (serial_in ns n - 1) n (serial_tells ns n k).1
  ]

  -- a serial that is given has 32 bits where there are as many names at most
  pub renewed_serial : (n : Name) → IsTrue (has (world_name ∷ ns) n) → ((renewed_name ns n).thread ≤ 1) × ((renewed_name ns n).serial ≤ length ns)
  renewed_serial n h = elim (has_split world_name ns n h) [
    | inl e ↦ subst (λ (q : Name). ((renewed_name ns q).thread ≤ 1) × ((renewed_name ns q).serial ≤ length ns)) (sym e) (omega arith, omega arith)
    | inr k ↦ subst (λ (q : Name). (q.thread ≤ 1) × (q.serial ≤ length ns)) (sym (renewed_one n k)) (omega arith, (serial_tells ns n k).0)
  ]

  -- of two names the first in order is the first under their new names too
  less_renewed : (a b : Name) → IsTrue (has (world_name ∷ ns) a) → IsTrue (has (world_name ∷ ns) b) → name_order a b ≡ Less → name_order (renewed_name ns a) (renewed_name ns b) ≡ Less
  less_renewed a b in_a in_b less = elim (has_split world_name ns b in_b) [
    | inl q ↦ elim (has_split world_name ns a in_a) [
      | inl p ↦ order_itself b (subst (λ z. name_order z b ≡ Less) (p ∙ sym q) less)
      | inr p ↦ order_both a world_name (subst (λ z. name_order a z ≡ Less) q less) (all_at (λ m. name_order world_name m ≡ Less) ns a (tail_in_order world_name ns order).0 p)
    ]
    | inr q ↦ elim (has_split world_name ns a in_a) [
      | inl p ↦ ap (λ z. name_order (renewed_name ns z) (renewed_name ns b)) p ∙ ap (name_order world_name) (renewed_one b q) ∙ world_less (serial_in ns b)
      | inr p ↦ (λ i. name_order (renewed_one a p i) (renewed_one b q i)) ∙ serials_less (serial_in ns a) (serial_in ns b) (serial_less ns a b (tail_in_order world_name ns order).1 p q less)
    ]
  ]

  behind_renewed : (a : Name) (ms : List Name) → IsTrue (has (world_name ∷ ns) a) → ((n : Name) → IsTrue (has ms n) → IsTrue (has (world_name ∷ ns) n)) → AllByRecursion (λ m. name_order a m ≡ Less) ms
      → AllByRecursion (λ m. name_order (renewed_name ns a) m ≡ Less) (map (renewed_name ns) ms)
  behind_renewed a [] in_a among behind = tt
  behind_renewed a (m ∷ ms) in_a among behind =
      (less_renewed a m in_a (among m (first_has m ms)) behind.0, behind_renewed a ms in_a (λ n h. among n (later_has m ms n h)) behind.1)

  -- so some of these names stay in order
  pub some_in_order : (ms : List Name) → ((n : Name) → IsTrue (has ms n) → IsTrue (has (world_name ∷ ns) n)) → AreInOrder ms → AreInOrder (map (renewed_name ns) ms)
  unfolding IsStrictlySortedBy
  some_in_order [] among o = tt
  some_in_order (m ∷ ms) among o =
      (behind_renewed m ms (among m (first_has m ms)) (λ n h. among n (later_has m ms n h)) o.0, some_in_order ms (λ n h. among n (later_has m ms n h)) o.1)
