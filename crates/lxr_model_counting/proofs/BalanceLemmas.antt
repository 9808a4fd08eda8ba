-- What increments add and decrements take away is the change of the references: at a field that wasn't written nothing
-- changed, and at one that was, the one counts what it held and the other what it holds.
use Rattle.std.proofs.Common.{inl, inr, ◌≡◌, ℕ, zero, suc, ◌+◌, refl, sym, ap, subst, ◌∙◌, arith, Bool, true, false, cond, List, [], ◌∷◌, IsTrue, length}
use Rattle.std.specs.Prelude.{not, ◌||◌, ◌&&◌, Option, None, Some, count_by, slice_index_or, slice_get, sum_by, map}
use Rattle.std.specs.Ordering.{is_lt}
use Rattle.std.specs.List.{zip}
use Rattle.std.specs.List.Sorted.{IsPermutation}
use Rattle.std.proofs.lemmas.List.Sums.{sum_by-cons}
use Rattle.std.proofs.lemmas.List.Sorted.{sum_by-IsPermutation, list_any-IsPermutation}
use Rattle.lxr_layout.specs.declared.Name.{Name}
use Rattle.lxr_graph.specs.Names.{same_name, same_held, name_order, has, insert_name, union, AreInOrder}
use Rattle.lxr_graph.specs.State.{Graph, object_at, refs_of}
use Rattle.lxr_graph.proofs.NameSets.{not_both, has-union}
use Rattle.lxr_model.specs.Reachable.{held}
use Rattle.lxr_model.specs.References.{occurrences, references_from, references}
use Rattle.lxr_model.specs.Moments.{Field, Moment, same_field}
use Rattle.lxr_model.specs.Reports.{raised, field_holds, newly_held}
use Rattle.lxr_model.proofs.ReachableLemmas.{promoted_made}
use Rattle.lxr_model.proofs.CountLemmas.{references_none}
use Rattle.lxr_model_counting.specs.Distinct.{IsDistinct, has_field, AreDistinctFields}
use Rattle.lxr_model_counting.specs.Following.{FollowsPause}
use Rattle.lxr_model_counting.specs.Balance.{newly_dropped, lowered}
use Rattle.lxr_model_counting.specs.Laws.{RaisedAndLoweredBalance, MadeHadNoReferences}
use Rattle.lxr_model_counting.proofs.DistinctLemmas.{tested, or_false, in_order_distinct, first_has, later_has}
use Rattle.lxr_model_counting.proofs.SumLemmas.{at_fields, AreFieldsOf, names_add, list_over_names, one_at_field, count_over_list, references_over}

-- ---- lists in another order

-- a list in another order counts as much, and has the same
pub count_permuted : {X : Type 0} (p : X → Bool) (xs ys : List X) → IsPermutation xs ys → count_by p ys ≡ count_by p xs
count_permuted p xs ys h = sum_by-IsPermutation (λ x. cond (p x) 1 0) xs ys h

pub has_permuted : (ns ms : List Name) (q : Name) → IsPermutation ns ms → has ns q ≡ has ms q
has_permuted ns ms q h = list_any-IsPermutation (same_name q) ns ms h

pub has_field_permuted : (vs ws : List Field) (w : Field) → IsPermutation vs ws → has_field vs w ≡ has_field ws w
has_field_permuted vs ws w h = list_any-IsPermutation (same_field w) vs ws h

-- the count over what a list becomes, in another order, is a count over that list
pub count_mapped : {X Y : Type 0} (f : X → Y) (p : Y → Bool) (xs : List X) (ys : List Y) → IsPermutation (map f xs) ys → count_by p ys ≡ count_by (λ x. p (f x)) xs
count_mapped f p xs ys h = count_permuted p (map f xs) ys h ∙ counted f p xs
  where
    counted : {X Y : Type 0} (f : X → Y) (p : Y → Bool) (xs : List X) → count_by p (map f xs) ≡ count_by (λ x. p (f x)) xs
    counted f p [] = refl
    counted f p (x ∷ xs) =
        let a = sum_by-cons (λ y. cond (p y) 1 0) (f x) (map f xs) in
        let b = sum_by-cons (λ z. cond (p (f z)) 1 0) x xs in
        let c = counted f p xs in
        omega (arith, a, b, c)

pub references_sum : (g : Graph) (ns : List Name) (o : Name) → references_from g ns o ≡ sum_by (λ u. occurrences (refs_of (object_at g u)) o) ns
references_sum g [] o = refl
references_sum g (n ∷ ns) o = let a = sum_by-cons (λ u. occurrences (refs_of (object_at g u)) o) n ns in let b = references_sum g ns o in omega (arith, a, b)

-- the references from names in another order are as many
pub references_permuted : (g : Graph) (ns ms : List Name) (o : Name) → IsPermutation ns ms → references_from g ms o ≡ references_from g ns o
references_permuted g ns ms o h =
    references_sum g ms o ∙ sum_by-IsPermutation (λ u. occurrences (refs_of (object_at g u)) o) ns ms h ∙ sym (references_sum g ns o)

-- ---- references of a union

-- one more name adds its references
pub references_insert : (g : Graph) (n : Name) (ms : List Name) (o : Name) → has ms n ≡ false → references_from g (insert_name n ms) o ≡ occurrences (refs_of (object_at g n)) o + references_from g ms o
references_insert g n [] o h = refl
references_insert g n (m ∷ ms) o h =
    let parts = or_false (same_name n m) (has ms n) h in
    let rest = references_insert g n ms o parts.1 in
    elim (is_lt (name_order m n)) as (λ b. references_from g (cond b (m ∷ insert_name n ms) (cond (same_name n m) (m ∷ ms) (n ∷ m ∷ ms))) o ≡ occurrences (refs_of (object_at g n)) o + references_from g (m ∷ ms) o) [
      | true ↦ omega (arith, rest)
      | false ↦ subst (λ b. references_from g (cond b (m ∷ ms) (n ∷ m ∷ ms)) o ≡ occurrences (refs_of (object_at g n)) o + references_from g (m ∷ ms) o) (sym parts.0) refl
    ]

-- the references from a union are those from both, where no name is in both
pub references_union : (g : Graph) (ns ms : List Name) (o : Name) → IsDistinct ns → ((n : Name) → IsTrue (has ns n) → has ms n ≡ false)
    → references_from g (union ns ms) o ≡ references_from g ns o + references_from g ms o
references_union g [] ms o d apart = omega arith
references_union g (n ∷ ns) ms o d apart =
    let rest = references_union g ns ms o d.1 (λ q h. apart q (later_has n ns q h)) in
    let absent : has (union ns ms) n ≡ false = has-union ns ms n ∙ ap (λ b. b || has ms n) d.0 ∙ apart n (first_has n ns) in
    let here = references_insert g n (union ns ms) o absent in
    omega (arith, rest, here)

pub references_in_order : (g : Graph) (ns ms : List Name) (o : Name) → AreInOrder ns → ((n : Name) → IsTrue (has ns n) → has ms n ≡ false)
    → references_from g (union ns ms) o ≡ references_from g ns o + references_from g ms o
references_in_order g ns ms o in_order apart = references_union g ns ms o (in_order_distinct ns in_order) apart

-- ---- registers

one_of_two : (a b : Bool) → cond b 1 0 + cond (a && not b) 1 0 ≡ cond a 1 0 + cond (b && not a) 1 0
one_of_two true true = refl
one_of_two true false = refl
one_of_two false true = refl
one_of_two false false = refl

-- what registers hold now and what they hold no more is what they held and what they hold newly
pub registers_balance : (before now : List (Option Name)) (o : Name) → length before ≡ length now
    → occurrences now o + newly_dropped before now o ≡ occurrences before o + newly_held before now o
registers_balance [] [] o e = refl
registers_balance [] (n ∷ now) o e = absurd (omega arith)
registers_balance (b ∷ before) [] o e = absurd (omega arith)
registers_balance (b ∷ before) (n ∷ now) o e =
    let rest = registers_balance before now o (omega arith) in
    let dropped = sum_by-cons (λ (p : Option Name × Option Name). cond (same_held (Some o) p.0 && not (same_held (Some o) p.1)) 1 0) (b, n) (zip before now) in
    let taken = sum_by-cons (λ (p : Option Name × Option Name). cond (same_held (Some o) p.1 && not (same_held (Some o) p.0)) 1 0) (b, n) (zip before now) in
    let here = one_of_two (same_held (Some o) b) (same_held (Some o) n) in
    omega (arith, rest, dropped, taken, here)

-- ---- fields

index_get : (rs : List (Option Name)) (i : ℕ) (x : Option (Option Name)) → slice_get rs i ≡ x → slice_index_or rs i None ≡ elim x [ None ↦ None | Some v ↦ v ]
index_get [] i x e = ap (λ y. elim y [ None ↦ None | Some v ↦ v ]) e
index_get (r ∷ rs) zero x e = ap (λ y. elim y [ None ↦ None | Some v ↦ v ]) e
index_get (r ∷ rs) (suc i) x e = index_get rs i x e

same_index : (rs qs : List (Option Name)) (i : ℕ) → slice_get rs i ≡ slice_get qs i → slice_index_or rs i None ≡ slice_index_or qs i None
same_index rs qs i e = index_get rs i (slice_get qs i) e ∙ sym (index_get qs i (slice_get qs i) refl)

at_written : (h : Bool) (now was : ℕ) → (h ≡ false → now ≡ was) → now + cond h was 0 ≡ was + cond h now 0
at_written true now was same = omega arith
at_written false now was same = let e = same refl in omega (arith, e)

-- Of objects of the same sizes in two graphs that differ at the fields of a list alone: the references in the second and
-- what the fields held in the first are the references in the first and what the fields hold in the second.
pub fields_balance : (g h : Graph) (us : List Name) (ws : List Field) (o : Name) → IsDistinct us → AreDistinctFields ws
    → ((u : Name) → IsTrue (has us u) → length (refs_of (object_at h u)) ≡ length (refs_of (object_at g u)))
    → AreFieldsOf ws (λ u. length (refs_of (object_at g u))) us
    → ((u : Name) (i : ℕ) → IsTrue (has us u) → has_field ws (u, i) ≡ false → slice_get (refs_of (object_at h u)) i ≡ slice_get (refs_of (object_at g u)) i)
    → references_from h us o + count_by (field_holds g o) ws ≡ references_from g us o + count_by (field_holds h o) ws
fields_balance g h us ws o distinct once sizes are same =
    let size : Name → ℕ = λ u. length (refs_of (object_at g u)) in
    let now = references_over h size us o sizes in
    let was = references_over g size us o (λ u in_us. refl) in
    let held_now = count_over_list (field_holds h o) ws ∙ list_over_names (one_at_field h o) size us ws distinct once are in
    let held_was = count_over_list (field_holds g o) ws ∙ list_over_names (one_at_field g o) size us ws distinct once are in
    let both = names_add (one_at_field h o) (at_fields ws (one_at_field g o)) (one_at_field g o) (at_fields ws (one_at_field h o)) size us
    (λ u i in_us below. at_written (has_field ws (u, i)) (one_at_field h o u i) (one_at_field g o u i)
    (λ e. ap (λ x. cond (same_held (Some o) x) 1 0) (same_index (refs_of (object_at h u)) (refs_of (object_at g u)) i (same u i in_us e)))) in
    omega (arith, now, was, held_now, held_was, both)

-- ---- the balance

-- unreclaimed objects have as many references as at the last pause
pub same_sizes : (m : Moment) → FollowsPause m → (u : Name) → IsTrue (has m.unreclaimed u) → length (refs_of (object_at m.state.graph u)) ≡ length (refs_of (object_at m.last.graph u))
same_sizes m follows u h =
    let at = follows.objects u h in
    ap (λ x. length (refs_of x)) at.3 ∙ at.4.refs ∙ sym (ap (λ x. length (refs_of x)) at.2)

pub unreclaimed_balance : (m : Moment) (o : Name) → FollowsPause m
    → references_from m.state.graph m.unreclaimed o + count_by (field_holds m.last.graph o) m.written
    ≡ references_from m.last.graph m.unreclaimed o + count_by (field_holds m.state.graph o) m.written
unreclaimed_balance m o follows =
    fields_balance m.last.graph m.state.graph m.unreclaimed m.written o (in_order_distinct m.unreclaimed follows.unreclaimed) follows.written_once
    (same_sizes m follows) (λ u i h. let w = follows.written u i h in (w.0, w.2)) follows.unwritten

-- the balance, where each promoted name was made since the last pause and stands once among them
pub promoted_balance : (m : Moment) (promoted : List Name) (o : Name) → FollowsPause m → IsDistinct promoted → ((n : Name) → IsTrue (has promoted n) → IsTrue (has m.made n))
    → references m.last m.unreclaimed o + raised m promoted o ≡ references m.state (union promoted m.unreclaimed) o + lowered m o
promoted_balance m promoted o follows once made =
    let fields = unreclaimed_balance m o follows in
    let registers = registers_balance m.last.registers m.state.registers o (let a = follows.rows in let b = follows.registers in let c = follows.registers_were in omega (arith, a, b, c)) in
    let joined = references_union m.state.graph promoted m.unreclaimed o once (λ n h. follows.apart n (made n h)) in
    omega (arith, fields, registers, joined)

pub balance : RaisedAndLoweredBalance
balance m promoted o follows is = promoted_balance m promoted o follows (in_order_distinct promoted is.in_order) (λ n h. promoted_made ((is.members n).0 h))

pub made_unreferenced : MadeHadNoReferences
made_unreferenced m n follows made =
    references_none m.last m.unreclaimed n
    (λ h. not_both (has m.unreclaimed n) (follows.kept n (held h)) (follows.apart n made))
    (λ u in_us f. not_both (has m.unreclaimed n) (follows.closed u n in_us f) (follows.apart n made))

-- so its count before it is raised is 0, as that of each promoted name
pub found_references : (m : Moment) (promoted : List Name) (o : Name) → FollowsPause m → ((n : Name) → IsTrue (has promoted n) → IsTrue (has m.made n))
    → cond (has promoted o) 0 (references m.last m.unreclaimed o) ≡ references m.last m.unreclaimed o
found_references m promoted o follows made = elim (tested (has promoted o)) [
  | inl h ↦ ap (λ b. cond b 0 (references m.last m.unreclaimed o)) h ∙ sym (made_unreferenced m o follows (made o h))
  | inr e ↦ ap (λ b. cond b 0 (references m.last m.unreclaimed o)) e
]
