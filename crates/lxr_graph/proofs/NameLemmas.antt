-- Names sorted by their order stand in it, each once, where each was there once before.
use Rattle.std.proofs.Common.{◌≡◌, ℕ, ◌+◌, ◌*◌, ◌^◌, ◌<◌, refl, ap, ◌∙◌, sym, arith, false, List, [], ◌∷◌, length, map}
use Rattle.std.specs.Prelude.{◌||◌, slice_index_or}
use Rattle.std.specs.Cmp.{IsStrictWeakOrder, IsTotalOrder}
use Rattle.std.specs.List.{AllByRecursion}
use Rattle.std.specs.List as list
use Rattle.std.specs.List.Sorted.{IsPermutation, IsSortedBy}
use Rattle.std.specs.Ordering.{is_lt, nat_cmp}
use Rattle.std.specs.declared.cmp.Ordering.TheVariants.{Less}
use Rattle.std.proofs.lemmas.Bool.{or_parts}
use Rattle.std.proofs.lemmas.Bool.Decides.{nat_tests}
use Rattle.std.proofs.lemmas.Cmp.{nat_cmp_total, on_total, then_total}
use Rattle.std.proofs.lemmas.List.{get_or-map, length-map}
use Rattle.std.proofs.lemmas.List.Sorted.{IsPermutation-map, list_any-IsPermutation, ranks_by}
use Rattle.std.proofs.lemmas.Map.Keys.{IsDistinct-IsPermutation, apart_from_distinct, sorted_from_all_adjacent}
use Rattle.lxr_layout.specs.declared.Name.{Name}
use Rattle.lxr_graph.specs.Names.{AreInOrder, has, name_order, same_name}
use Rattle.lxr_graph.specs.Distinct.{IsDistinct}

-- ranks stand to each other as their names do
pub rank_order : (a b : Name) (i j : ℕ) → a.serial < 2 ^ 32 → b.serial < 2 ^ 32 → i ≡ a.serial + 2 ^ 32 * a.thread → j ≡ b.serial + 2 ^ 32 * b.thread → nat_cmp i j ≡ name_order a b
rank_order a b i j h k p q = grind (arith, nat_tests)

name_total : IsTotalOrder name_order
name_total = then_total (on_total (λ (n : Name). n.thread) nat_cmp_total) (on_total (λ (n : Name). n.serial) nat_cmp_total)

-- items are ranked by their names
pub names_rank : {T : Type 0} (name_of : T → Name) → IsStrictWeakOrder (λ a b. is_lt (name_order (name_of a) (name_of b)))
names_rank name_of = ranks_by name_total name_of

same_flips : (a b : Name) → same_name a b ≡ same_name b a
same_flips a b = grind arith

-- a name that neither stands behind another nor is it stands before it
before : (a b : Name) → is_lt (name_order b a) ≡ false → same_name a b ≡ false → name_order a b ≡ Less
before a b h k = grind (arith, nat_tests)

-- what a list has not differs from each of its names
none_same : (n : Name) (ns : List Name) → has ns n ≡ false → AllByRecursion (λ m. same_name n m ≡ false) ns
none_same n [] h = tt
none_same n (m ∷ ms) h = let parts = or_parts (same_name n m) (has ms n) h in (parts.0, none_same n ms parts.1)

distinct : (ns : List Name) → IsDistinct ns → list.IsDistinct same_name ns
unfolding list.IsDistinct
distinct [] h = tt
distinct (n ∷ ns) h = (none_same n ns h.0, distinct ns h.1)

sorted_names : (ns ms : List Name) → IsDistinct ns → IsPermutation ns ms → IsSortedBy (λ a b. is_lt (name_order a b)) ms → AreInOrder ms
sorted_names ns ms once moved up =
    let first : Name = record { thread = 0; serial = 0 } in
    let apart = IsDistinct-IsPermutation same_name same_flips ns ms moved (distinct ns once) in
    sorted_from_all_adjacent name_total ms first
    (λ k within. before (slice_index_or ms k first) (slice_index_or ms (k + 1) first) (up k first (omega arith) within) (apart_from_distinct same_name ms k (k + 1) first apart (omega arith) within))

-- the names of items that are sorted by them are sorted
names_sorted : {T : Type 0} (name_of : T → Name) (es : List T) → IsSortedBy (λ a b. is_lt (name_order (name_of a) (name_of b))) es → IsSortedBy (λ a b. is_lt (name_order a b)) (map name_of es)
names_sorted name_of [] up k d above within = absurd (omega (arith, within))
names_sorted name_of (e ∷ rest) up k d above within =
    let es = e ∷ rest in
    let few : k + 1 < length es = omega (arith, length-map es name_of, within) in
    let later = get_or-map name_of es (k + 1) e d few in
    let earlier = get_or-map name_of es k e d (omega (arith, few)) in
    ap (λ x. is_lt (name_order x (slice_index_or (map name_of es) k d))) later ∙ ap (λ x. is_lt (name_order (name_of (slice_index_or es (k + 1) e)) x)) earlier ∙ up k e above few

pub sorted_items : {T : Type 0} (name_of : T → Name) (es fs : List T) → IsDistinct (map name_of es) → IsPermutation es fs → IsSortedBy (λ a b. is_lt (name_order (name_of a) (name_of b))) fs → AreInOrder (map name_of fs)
sorted_items name_of es fs once moved up = sorted_names (map name_of es) (map name_of fs) once (IsPermutation-map name_of es fs moved) (names_sorted name_of fs up)

pub same_members : (ns ms : List Name) → IsPermutation ns ms → (n : Name) → has ms n ≡ has ns n
same_members ns ms moved n = sym (list_any-IsPermutation (same_name n) ns ms moved)

-- what differs from each name of a list isn't there
none_had : (n : Name) (ns : List Name) → AllByRecursion (λ m. same_name n m ≡ false) ns → has ns n ≡ false
none_had n [] h = refl
none_had n (m ∷ ms) h = ap (λ b. b || has ms n) h.0 ∙ none_had n ms h.1

once_each : (ns : List Name) → list.IsDistinct same_name ns → IsDistinct ns
unfolding list.IsDistinct
once_each [] h = tt
once_each (n ∷ ns) h = (none_had n ns h.0, once_each ns h.1)

-- names of which none stands twice stand so in any order
pub distinct_moved : (ns ms : List Name) → IsPermutation ns ms → IsDistinct ns → IsDistinct ms
distinct_moved ns ms moved once = once_each ms (IsDistinct-IsPermutation same_name same_flips ns ms moved (distinct ns once))
