-- The accounts of the increments: each step of the order takes as much from what is pending as it raises.
use Rattle.std.proofs.Common.{◌≡◌, ℕ, zero, suc, ◌+◌, refl, sym, ap, subst, ◌∙◌, inl, inr, arith, Bool, true, false, cond, List, [], ◌∷◌, ◌++◌, IsTrue, length}
use Rattle.std.specs.Prelude.{not, ◌||◌, Option, None, Some, count_by, map, slice_get, slice_index_or, slice_set, take}
use Rattle.std.specs.List.{swap, zip}
use Rattle.std.specs.List.Sorted.{IsPermutation, SwapsInRange, apply_swaps}
use Rattle.std.proofs.Math.ListN.{length-map}
use Rattle.std.proofs.lemmas.Bool.{or_cases, or_left, and_parts, false_from_ne_true}
use Rattle.std.proofs.lemmas.List.{map-set}
use Rattle.std.proofs.lemmas.List.Sums.{count_by_more_no, count_by_more_yes, sum_by-cons}
use Rattle.std.proofs.lemmas.Option.{get_or_from_slice_get, slice_get_within}
use Rattle.lxr_layout.specs.declared.Name.{Name}
use Rattle.lxr_graph.specs.Names.{has, same_held, same_name, without}
use Rattle.lxr_graph.specs.State.{Graph, object_at, refs_of}
use Rattle.lxr_graph.proofs.NameSets.{not_both, same_names}
use Rattle.lxr_model.specs.References.{occurrences, reference_slots, references_from}
use Rattle.lxr_model.specs.Moments.{Moment}
use Rattle.lxr_model_counting.specs.Distinct.{IsDistinct}
use Rattle.lxr_model_counting.proofs.DistinctLemmas.{or_false, same_flip, tested}
use Rattle.lxr_invariant.proofs.NameLemmas.{has_last, has_more}
use Rattle.lxr_invariant.proofs.EntryLemmas.{one_if}
use Rattle.lxr_pause_increments.specs.Accounted.{stage_with_held}
use Rattle.lxr_pause_increments.specs.Increments.{Accounts, IncrementStage, is_unpromoted, stage_with}

-- ---- names behind a list

pub has_before : (ns : List Name) (r q : Name) → IsTrue (has ns q) → IsTrue (has (ns ++ r ∷ []) q)
has_before ns r q h = has_more ns r q ∙ or_left (has ns q) (same_name q r) h

pub has_other : (ns : List Name) (r q : Name) → same_name q r ≡ false → has (ns ++ r ∷ []) q ≡ has ns q
has_other [] r q e = ap (λ b. b || false) e
has_other (n ∷ ns) r q e = ap (λ b. same_name q n || b) (has_other ns r q e)

-- the last of a list of distinct names stands nowhere else in it, and the others are distinct
pub distinct_last : (ns : List Name) (r : Name) → IsDistinct (ns ++ r ∷ []) → IsDistinct ns × (has ns r ≡ false)
distinct_last [] r d = (tt, refl)
distinct_last (n ∷ ns) r d =
    let rest = distinct_last ns r d.1 in
    let differ : same_name n r ≡ false = false_from_ne_true (same_name n r) (λ k. not_both (has (ns ++ r ∷ []) n) (subst (λ x. IsTrue (has (ns ++ r ∷ []) x)) (sym (same_names n r k)) (has_last ns r)) d.0) in
    let absent : has ns n ≡ false = sym (has_other ns r n differ) ∙ d.0 in
    ((absent, rest.0), ap (λ b. b || has ns r) (same_flip n r differ) ∙ rest.1)

-- ---- what is promoted and out of the worklist

without_behind : (ps ws : List Name) (o : Name) → has ps o ≡ false → without ps (ws ++ o ∷ []) ≡ without ps ws
without_behind [] ws o e = refl
without_behind (p ∷ ps) ws o e =
    let parts = or_false (same_name o p) (has ps o) e in
    let rest = without_behind ps ws o parts.1 in
    ap (λ b. cond (not b) (p ∷ without ps (ws ++ o ∷ [])) (without ps (ws ++ o ∷ []))) (has_other ws o p (same_flip o p parts.0))
    ∙ ap (λ x. cond (not (has ws p)) (p ∷ x) x) rest

-- one that is promoted joins the worklist
without_pushed : (ps ws : List Name) (o : Name) → has ps o ≡ false → without (o ∷ ps) (ws ++ o ∷ []) ≡ without ps ws
without_pushed ps ws o e =
    ap (λ b. cond (not b) (o ∷ without ps (ws ++ o ∷ [])) (without ps (ws ++ o ∷ []))) (has_last ws o) ∙ without_behind ps ws o e

-- one that leaves the worklist adds its part to what is summed over all that are out
sum_popped : (total : List Name → ℕ) (part : Name → ℕ) → ((n : Name) (ns : List Name) → total (n ∷ ns) ≡ part n + total ns) → (ps ws : List Name) (u : Name) → IsDistinct ps → IsTrue (has ps u) → has ws u ≡ false
    → total (without ps ws) ≡ part u + total (without ps (ws ++ u ∷ []))
sum_popped total part more [] ws u d h e = absurd (cc)
sum_popped total part more (p ∷ ps) ws u d h e = elim (tested (same_name p u)) [
  | inl k ↦
      let same : p ≡ u = same_names p u k in
      let out : has ws p ≡ false = ap (has ws) same ∙ e in
      let in_more : has (ws ++ u ∷ []) p ≡ true = ap (has (ws ++ u ∷ [])) same ∙ has_last ws u in
      let absent : has ps u ≡ false = ap (has ps) (sym same) ∙ d.0 in
      let left : total (without (p ∷ ps) ws) ≡ part p + total (without ps ws) = ap (λ b. total (cond (not b) (p ∷ without ps ws) (without ps ws))) out ∙ more p (without ps ws) in
      let right : total (without (p ∷ ps) (ws ++ u ∷ [])) ≡ total (without ps (ws ++ u ∷ [])) = ap (λ b. total (cond (not b) (p ∷ without ps (ws ++ u ∷ [])) (without ps (ws ++ u ∷ [])))) in_more in
      let rest : total (without ps (ws ++ u ∷ [])) ≡ total (without ps ws) = ap total (without_behind ps ws u absent) in
      let here : part p ≡ part u = ap part same in
      omega (arith, left, right, rest, here)
  | inr k ↦
      let there : IsTrue (has ps u) = elim (or_cases (same_name u p) (has ps u) h) [ inl q ↦ not_both (same_name u p) q (same_flip p u k) | inr q ↦ q ] in
      let rest = sum_popped total part more ps ws u d.1 there e in
      let same : has (ws ++ u ∷ []) p ≡ has ws p = has_other ws u p k in
      let right : total (without (p ∷ ps) (ws ++ u ∷ [])) ≡ total (cond (not (has ws p)) (p ∷ without ps (ws ++ u ∷ [])) (without ps (ws ++ u ∷ []))) =
      ap (λ b. total (cond (not b) (p ∷ without ps (ws ++ u ∷ [])) (without ps (ws ++ u ∷ [])))) same in
      either (has ws p) (without ps ws) (without ps (ws ++ u ∷ [])) rest right
]
  where
    either : (b : Bool) (xs ys : List Name) → total xs ≡ part u + total ys → total (without (p ∷ ps) (ws ++ u ∷ [])) ≡ total (cond (not b) (p ∷ ys) ys)
        → total (cond (not b) (p ∷ xs) xs) ≡ part u + total (without (p ∷ ps) (ws ++ u ∷ []))
    either true xs ys rest right = omega (arith, rest, right)
    either false xs ys rest right = let a = more p xs in let b = more p ys in omega (arith, rest, right, a, b)

-- so with its references
pub references_popped : (g : Graph) (ps ws : List Name) (u o : Name) → IsDistinct ps → IsTrue (has ps u) → has ws u ≡ false
    → references_from g (without ps ws) o ≡ occurrences (refs_of (object_at g u)) o + references_from g (without ps (ws ++ u ∷ [])) o
references_popped g ps ws u o = sum_popped (λ ns. references_from g ns o) (λ n. occurrences (refs_of (object_at g n)) o) (λ n ns. refl) ps ws u

pub slots_popped : (g : Graph) (ps ws : List Name) (u : Name) → IsDistinct ps → IsTrue (has ps u) → has ws u ≡ false
    → reference_slots g (without ps ws) ≡ length (refs_of (object_at g u)) + reference_slots g (without ps (ws ++ u ∷ []))
slots_popped g ps ws u = sum_popped (reference_slots g) (λ n. length (refs_of (object_at g n))) (sum_by-cons (λ n. length (refs_of (object_at g n)))) ps ws u

-- ---- accounts

pub same_out : (m : Moment) (st : IncrementStage) (o : Name) (q : ℕ) → without (stage_with m st o q).promoted (stage_with m st o q).work ≡ without st.promoted st.work
same_out m st o q = elim (tested (is_unpromoted m st o)) [
  | inl e ↦
      let absent : has st.promoted o ≡ false = not_true (has st.promoted o) (and_parts (has m.made o) (not (has st.promoted o)) e).1 in
      ap (λ b. without (cond b (o ∷ st.promoted) st.promoted) (cond b (st.work ++ o ∷ []) st.work)) e ∙ without_pushed st.promoted st.work o absent
  | inr e ↦ ap (λ b. without (cond b (o ∷ st.promoted) st.promoted) (cond b (st.work ++ o ∷ []) st.work)) e
]
  where
    not_true : (b : Bool) → IsTrue (not b) → b ≡ false
    not_true true h = absurd (cc)
    not_true false h = refl

-- what is held is raised: so much more is asked for, or so much less is pending
pub accounts_held : (m : Moment) (st : IncrementStage) (held : Option Name) (q : ℕ) (base pending after rest : Name → ℕ) → Accounts m st base pending
    → ((o : Name) → after o + pending o ≡ base o + (cond (same_held (Some o) held) 1 0 + rest o)) → Accounts m (stage_with_held m st held q) after rest
accounts_held m st None q base pending after rest is e o = let a = is o in let b = e o in omega (arith, a, b)
accounts_held m st (Some n) q base pending after rest is e o =
    let a = is o in
    let b = e o in
    let c : references_from m.state.graph (without (stage_with m st n q).promoted (stage_with m st n q).work) o ≡ references_from m.state.graph (without st.promoted st.work) o =
    ap (λ x. references_from m.state.graph x o) (same_out m st n q) in
    let d : (stage_with m st n q).added o ≡ cond (same_held (Some o) (Some n)) 1 0 + st.added o = refl in
    omega (arith, a, b, c, d)

-- other words for the same accounts
pub accounts_same : (m : Moment) (st : IncrementStage) (base pending after rest : Name → ℕ) → ((o : Name) → after o ≡ base o) → ((o : Name) → rest o ≡ pending o) → Accounts m st base pending → Accounts m st after rest
accounts_same m st base pending after rest e f is o = let a = is o in let b = e o in let c = f o in omega (arith, a, b, c)

-- one is taken out of the worklist, and its references are pending
pub accounts_popped : (m : Moment) (st : IncrementStage) (ws : List Name) (u : Name) (base : Name → ℕ) → st.work ≡ ws ++ u ∷ [] → IsDistinct st.promoted → IsTrue (has st.promoted u) → has ws u ≡ false
    → Accounts m st base (λ o. 0) → Accounts m (record st { work = ws }) base (occurrences (refs_of (object_at m.state.graph u)))
accounts_popped m st ws u base is d promoted absent accounts o =
    let a = accounts o in
    let b = references_popped m.state.graph st.promoted ws u o d promoted absent in
    let c : references_from m.state.graph (without st.promoted st.work) o ≡ references_from m.state.graph (without st.promoted (ws ++ u ∷ [])) o = ap (λ x. references_from m.state.graph (without st.promoted x) o) is in
    omega (arith, a, b, c)

-- ---- the first of a list

pub counted_more : {X : Type 0} (p : X → Bool) (xs : List X) (i : ℕ) (x : X) → slice_get xs i ≡ Some x → count_by p (take (i + 1) xs) ≡ count_by p (take i xs) + cond (p x) 1 0
counted_more p xs i x e =
    let within = slice_get_within xs i x e in
    let there = get_or_from_slice_get xs i x x e in
    elim (tested (p x)) [
      | inl k ↦ let a = count_by_more_yes p xs i x within (ap p there ∙ k) in let b : one_if (p x) ≡ 1 = ap one_if k in omega (arith, a, b)
      | inr k ↦ let a = count_by_more_no p xs i x within (ap p there ∙ k) in let b : one_if (p x) ≡ 0 = ap one_if k in omega (arith, a, b)
    ]

pub zip_taken : {X Y : Type 0} (xs : List X) (ys : List Y) (i : ℕ) → zip (take i xs) (take i ys) ≡ take i (zip xs ys)
zip_taken [] [] zero = refl
zip_taken [] [] (suc i) = refl
zip_taken [] (y ∷ ys) zero = refl
zip_taken [] (y ∷ ys) (suc i) = refl
zip_taken (x ∷ xs) [] zero = refl
zip_taken (x ∷ xs) [] (suc i) = refl
zip_taken (x ∷ xs) (y ∷ ys) zero = refl
zip_taken (x ∷ xs) (y ∷ ys) (suc i) = ap (λ z. (x, y) ∷ z) (zip_taken xs ys i)

pub zip_got : {X Y : Type 0} (xs : List X) (ys : List Y) (i : ℕ) (x : X) (y : Y) → slice_get xs i ≡ Some x → slice_get ys i ≡ Some y → slice_get (zip xs ys) i ≡ Some (x, y)
zip_got [] ys i x y e f = absurd (cc)
zip_got (a ∷ xs) [] i x y e f = absurd (cc)
zip_got (a ∷ xs) (b ∷ ys) zero x y e f = let p : a ≡ x = cc in let q : b ≡ y = cc in λ i. Some (p i, q i)
zip_got (a ∷ xs) (b ∷ ys) (suc i) x y e f = zip_got xs ys i x y e f

-- ---- another order

index_mapped : {X Y : Type 0} (f : X → Y) (ys : List X) (n : ℕ) (d : X) → f (slice_index_or ys n d) ≡ slice_index_or (map f ys) n (f d)
index_mapped f [] n d = refl
index_mapped f (y ∷ ys) zero d = refl
index_mapped f (y ∷ ys) (suc n) d = index_mapped f ys n d

swap_mapped : {X Y : Type 0} (f : X → Y) (xs : List X) (i j : ℕ) → map f (swap xs i j) ≡ swap (map f xs) i j
swap_mapped f [] i j = refl
swap_mapped f (x ∷ xs) i j =
    map-set f (slice_set (x ∷ xs) i (slice_index_or (x ∷ xs) j x)) j (slice_index_or (x ∷ xs) i x)
    ∙ ap (λ z. slice_set z j (f (slice_index_or (x ∷ xs) i x))) (map-set f (x ∷ xs) i (slice_index_or (x ∷ xs) j x))
    ∙ ap (λ z. slice_set (slice_set (map f (x ∷ xs)) i (f (slice_index_or (x ∷ xs) j x))) j z) (index_mapped f (x ∷ xs) i x)
    ∙ ap (λ z. slice_set (slice_set (map f (x ∷ xs)) i z) j (slice_index_or (map f (x ∷ xs)) i (f x))) (index_mapped f (x ∷ xs) j x)

swaps_mapped : {X Y : Type 0} (f : X → Y) (xs : List X) (moves : List (ℕ × ℕ)) → map f (apply_swaps xs moves) ≡ apply_swaps (map f xs) moves
swaps_mapped f xs [] = refl
swaps_mapped f xs (p ∷ ps) = swap_mapped f (apply_swaps xs ps) p.0 p.1 ∙ ap (λ z. swap z p.0 p.1) (swaps_mapped f xs ps)

-- what a mapped list becomes in another order is the map of that list in that order
pub unmapped : {X Y : Type 0} (f : X → Y) (xs : List X) (ys : List Y) → IsPermutation (map f xs) ys → (zs : List X) × (map f zs ≡ ys) × IsPermutation xs zs
unmapped f xs ys h = (
  apply_swaps xs h.moves,
  swaps_mapped f xs h.moves ∙ sym h.is,
  record { moves = h.moves; below = subst (λ n. SwapsInRange n h.moves) (length-map xs f) h.below; is = refl },
)
