-- Lists of names in order, what joins a list at its end, and what a list in the reverse of its order has.
use Rattle.std.proofs.Common.{◌≡◌, suc, refl, sym, ap, ◌∙◌, inl, inr, arith, Bool, true, false, cond, List, [], ◌∷◌, ◌++◌, IsTrue, length}
use Rattle.std.specs.Prelude.{◌+◌, ◌≤◌, ◌&&◌, ◌||◌, filter, map, reverse, if◌then◌else◌}
use Rattle.std.specs.List.{list_any}
use Rattle.std.specs.Ordering.{is_lt}
use Rattle.std.proofs.lemmas.Bool.{or_left, or_right}
use Rattle.std.proofs.lemmas.List.{reverse-append}
use Rattle.std.proofs.lemmas.List.Folds.{list_any-append}
use Rattle.std.proofs.lemmas.List.Kept.{IsStrictlySortedBy-filter}
use Rattle.std.proofs.lemmas.List.Sorted.{IsPermutation-reverse, list_any-IsPermutation}
use Rattle.lxr_layout.specs.declared.Name.{Name}
use Rattle.lxr_graph.specs.State.{Graph, object_at, refs_of}
use Rattle.lxr_graph.specs.Names.{same_name, name_order, has, union, insert_name, AreInOrder}
use Rattle.lxr_graph.proofs.NameSets.{has-union, in_order-none, in_order-union, one_list, same_itself, same_names, union_cases, union_left}
use Rattle.lxr_model.specs.References.{occurrences, references_from}
use Rattle.lxr_model.specs.Moments.{Field, same_field, with_field}
use Rattle.lxr_judge_report.specs.Fields.{joined_field}

-- ---- lists in order

-- a list in order is what it is joined with nothing
pub alone : (ns : List Name) → AreInOrder ns → union ns [] ≡ ns
alone ns order = one_list (union ns []) ns (in_order-union ns [] in_order-none) order (λ q. (
  λ h. elim (union_cases ns [] q h) [ inl k ↦ k | inr k ↦ absurd (cc) ],
  λ h. union_left ns [] q h,
))

pub in_order-filter : (p : Name → Bool) (ns : List Name) → AreInOrder ns → AreInOrder (filter p ns)
in_order-filter p ns order = IsStrictlySortedBy-filter name_order p ns order

-- two tests that agree on a list keep the same of it
pub filter_same : (p q : Name → Bool) (ns : List Name) → ((n : Name) → IsTrue (has ns n) → p n ≡ q n) → filter p ns ≡ filter q ns
filter_same p q [] agree = refl
filter_same p q (n ∷ ns) agree =
    let rest = filter_same p q ns (λ x h. agree x (or_right (same_name x n) (has ns x) h)) in
    let here = agree n (or_left (same_name n n) (has ns n) (same_itself n)) in
    λ i. cond (here i) (n ∷ rest i) (rest i)

-- what a filtered list has
pub filter_has : (p : Name → Bool) (ns : List Name) (q : Name) → has (filter p ns) q ≡ (has ns q && p q)
filter_has p [] q = refl
filter_has p (n ∷ ns) q = elim (p n) as (λ b. p n ≡ b → has (cond b (n ∷ filter p ns) (filter p ns)) q ≡ ((same_name q n || has ns q) && p q)) [
  | true ↦ λ e. ap (λ b. same_name q n || b) (filter_has p ns q) ∙ within (same_name q n) (has ns q) (p q) (λ h. ap p (same_names q n h) ∙ e)
  | false ↦ λ e. filter_has p ns q ∙ outside (same_name q n) (has ns q) (p q) (λ h. ap p (same_names q n h) ∙ e)
] refl
  where
    within : (s h t : Bool) → (s ≡ true → t ≡ true) → (s || (h && t)) ≡ ((s || h) && t)
    within true h t e = sym (e refl)
    within false h t e = refl

    outside : (s h t : Bool) → (s ≡ true → t ≡ false) → (h && t) ≡ ((s || h) && t)
    outside true true t e = refl
    outside true false t e = sym (e refl)
    outside false h t e = refl

-- two functions that agree on a list make the same of it
pub map_same : {X : Type 0} (f g : Name → X) (ns : List Name) → ((n : Name) → IsTrue (has ns n) → f n ≡ g n) → map f ns ≡ map g ns
map_same f g [] agree = refl
map_same f g (n ∷ ns) agree =
    let rest = map_same f g ns (λ x h. agree x (or_right (same_name x n) (has ns x) h)) in
    let here = agree n (or_left (same_name n n) (has ns n) (same_itself n)) in
    λ i. here i ∷ rest i

-- fewer objects have fewer references
pub references_filter : (g : Graph) (p : Name → Bool) (ns : List Name) (o : Name) → references_from g (filter p ns) o ≤ references_from g ns o
references_filter g p [] o = omega arith
references_filter g p (n ∷ ns) o =
    let rest = references_filter g p ns o in
    elim (p n) as (λ b. references_from g (cond b (n ∷ filter p ns) (filter p ns)) o ≤ occurrences (refs_of (object_at g n)) o + references_from g ns o) [
      | true ↦ omega (arith, rest)
      | false ↦ omega (arith, rest)
    ]

-- ---- a name that joins

-- a list with a name at its end, where it isn't there yet, has it and what it had
pub joined_has : (ns : List Name) (x q : Name) → has (if has ns x then ns else ns ++ x ∷ []) q ≡ (same_name q x || has ns q)
joined_has ns x q = elim (has ns x) as (λ b. has ns x ≡ b → has (cond b ns (ns ++ x ∷ [])) q ≡ (same_name q x || has ns q)) [
  | true ↦ λ there. elim (same_name q x) as (λ b. same_name q x ≡ b → has ns q ≡ (b || has ns q)) [
    | true ↦ λ e. ap (has ns) (same_names q x e) ∙ there
    | false ↦ λ e. refl
  ] refl
  | false ↦ λ new. list_any-append (same_name q) ns (x ∷ []) ∙ swapped (has ns q) (same_name q x)
] refl
  where
    swapped : (a b : Bool) → (a || (b || false)) ≡ (b || a)
    swapped true true = refl
    swapped true false = refl
    swapped false true = refl
    swapped false false = refl

-- so has a list in order into which it is put
pub inserted_has : (x : Name) (ms : List Name) (q : Name) → has (insert_name x ms) q ≡ (same_name q x || has ms q)
inserted_has x ms q = has-union (x ∷ []) ms q ∙ dropped (same_name q x) (has ms q)
  where
    dropped : (a b : Bool) → ((a || false) || b) ≡ (a || b)
    dropped true b = refl
    dropped false b = refl

-- which has one name more, where it is new
pub inserted_length : (n : Name) (ms : List Name) → has ms n ≡ false → length (insert_name n ms) ≡ suc (length ms)
inserted_length n [] none = refl
inserted_length n (m ∷ ms) none = elim (is_lt (name_order m n)) as (λ b. length (cond b (m ∷ insert_name n ms) (cond (same_name n m) (m ∷ ms) (n ∷ m ∷ ms))) ≡ suc (suc (length ms))) [
  | true ↦ ap suc (inserted_length n ms (behind (same_name n m) none))
  | false ↦ elim (same_name n m) as (λ b. (b || has ms n) ≡ false → length (cond b (m ∷ ms) (n ∷ m ∷ ms)) ≡ suc (suc (length ms))) [
    | true ↦ λ no. let both : true ≡ false = no in absurd (cc)
    | false ↦ λ no. refl
  ] none
]
  where
    behind : (b : Bool) → (b || has ms n) ≡ false → has ms n ≡ false
    behind true e = let both : true ≡ false = e in absurd (cc)
    behind false e = e

-- ---- a field that joins

-- oldest first or newest first, a field joins the others where it isn't there yet
pub joined_reversed : (ws : List Field) (w : Field) → joined_field (reverse ws) w ≡ reverse (with_field ws w)
joined_reversed ws w =
    let same : list_any (same_field w) ws ≡ list_any (same_field w) (reverse ws) = list_any-IsPermutation (same_field w) ws (reverse ws) (IsPermutation-reverse ws) in
    let by : (b : Bool) → cond b (reverse ws) (reverse ws ++ w ∷ []) ≡ reverse (cond b ws (w ∷ ws)) = λ b. elim b as (λ b. cond b (reverse ws) (reverse ws ++ w ∷ []) ≡ reverse (cond b ws (w ∷ ws))) [
      | true ↦ refl
      | false ↦ sym (reverse-append (w ∷ []) ws)
    ] in
    ap (λ b. cond b (reverse ws) (reverse ws ++ w ∷ [])) (sym same) ∙ by (list_any (same_field w) ws)
