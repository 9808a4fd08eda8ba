-- How many objects a pause leaves: a name joins a set of others, and names leave a set that has them.
use Rattle.std.proofs.Common.{◌≡◌, suc, ◌+◌, refl, sym, ap, ◌∙◌, inl, inr, arith, Bool, true, false, cond, List, [], ◌∷◌, length}
use Rattle.std.specs.Prelude.{◌||◌, IsTrue}
use Rattle.std.specs.Ordering.{is_lt}
use Rattle.std.proofs.lemmas.Bool.{false_from_ne_true, or_left, or_right}
use Rattle.lxr_layout.specs.declared.Name.{Name}
use Rattle.lxr_graph.specs.Distinct.{IsDistinct}
use Rattle.lxr_graph.specs.Names.{AreInOrder, has, insert_name, name_order, same_name, union, without}
use Rattle.lxr_graph.specs.History.{PauseReport}
use Rattle.lxr_graph.proofs.NameSets.{has-union, in_order-union, in_order-without, in_without, not_both, one_list, same_itself, union_cases, union_left, union_right, without_parts}
use Rattle.lxr_model.specs.Moments.{Moment, unreclaimed_after}
use Rattle.lxr_model_counting.proofs.DistinctLemmas.{in_order_distinct, or_false}

-- ---- sets

-- one more than a set that hasn't the name
pub insert_length : (n : Name) (ms : List Name) → has ms n ≡ false → length (insert_name n ms) ≡ suc (length ms)
insert_length n [] none = refl
insert_length n (m ∷ ms) none = elim (is_lt (name_order m n)) as (λ b. length (cond b (m ∷ insert_name n ms) (cond (same_name n m) (m ∷ ms) (n ∷ m ∷ ms))) ≡ suc (suc (length ms))) [
  | true ↦ ap suc (insert_length n ms (or_false (same_name n m) (has ms n) none).1)
  | false ↦ elim (same_name n m) as (λ b. (b || has ms n) ≡ false → length (cond b (m ∷ ms) (n ∷ m ∷ ms)) ≡ suc (suc (length ms))) [
    | true ↦ λ no. let both : true ≡ false = no in absurd (cc)
    | false ↦ λ no. refl
  ] none
]

-- names of two sets that have none in common
pub union_length : (ns ms : List Name) → IsDistinct ns → ((n : Name) → IsTrue (has ns n) → has ms n ≡ false) → length (union ns ms) ≡ length ns + length ms
union_length [] ms distinct apart = let zero : length ms ≡ 0 + length ms = omega arith in zero
union_length (n ∷ ns) ms distinct apart =
    let rest : length (union ns ms) ≡ length ns + length ms = union_length ns ms distinct.1 (λ q h. apart q (or_right (same_name q n) (has ns q) h)) in
    let none : has (union ns ms) n ≡ false = has-union ns ms n ∙ ap (λ b. b || has ms n) distinct.0 ∙ apart n (or_left (same_name n n) (has ns n) (same_itself n)) in
    let more : length (insert_name n (union ns ms)) ≡ suc (length (union ns ms)) = insert_length n (union ns ms) none in
    more ∙ omega (arith, rest)

-- names that leave a set that has them
pub without_length : (ns out : List Name) → AreInOrder ns → AreInOrder out → ((n : Name) → IsTrue (has out n) → IsTrue (has ns n)) → length out + length (without ns out) ≡ length ns
without_length ns out order out_order among =
    let left : List Name = without ns out in
    let whole : union out left ≡ ns = one_list (union out left) ns (in_order-union out left (in_order-without ns out order)) order (λ q. (
      λ h. elim (union_cases out left q h) [ inl o ↦ among q o | inr k ↦ (without_parts ns out q k).0 ],
      λ h. by q (has out q) refl h,
    )) in
    sym (union_length out left (in_order_distinct out out_order) (λ n o. false_from_ne_true (has left n) (λ k. not_both (has out n) o (without_parts ns out n k).1))) ∙ ap length whole
  where
    by : (q : Name) (b : Bool) → has out q ≡ b → IsTrue (has ns q) → IsTrue (has (union out (without ns out)) q)
    by q true e h = union_left out (without ns out) q e
    by q false e h = union_right out (without ns out) q (in_without ns out q h (λ o. not_both (has out q) o e))

-- ---- a pause

-- What a pause promotes wasn't unreclaimed, what it reclaims was or is promoted, and nothing is both dead and swept. All these names stand in
-- order.
pub record Reclaims (m : Moment) (r : PauseReport) : Type 0 where
  pub unreclaimed : AreInOrder m.unreclaimed
  pub promoted : AreInOrder r.promoted
  pub dead : AreInOrder r.dead
  pub swept : AreInOrder r.swept
  pub new : (n : Name) → IsTrue (has r.promoted n) → has m.unreclaimed n ≡ false
  pub dead_were : (n : Name) → IsTrue (has r.dead n) → IsTrue (has (union r.promoted m.unreclaimed) n)
  pub swept_were : (n : Name) → IsTrue (has r.swept n) → IsTrue (has (union r.promoted m.unreclaimed) n)
  pub once : (n : Name) → IsTrue (has r.dead n) → has r.swept n ≡ false

-- so the names that it leaves and those that it reclaims are as many as were unreclaimed or are promoted
pub left_length : (m : Moment) (r : PauseReport) → Reclaims m r → length (unreclaimed_after m r) + (length r.dead + length r.swept) ≡ length m.unreclaimed + length r.promoted
left_length m r is =
    let all : List Name = union r.promoted m.unreclaimed in
    let order : AreInOrder all = in_order-union r.promoted m.unreclaimed is.unreclaimed in
    let whole = union_length r.promoted m.unreclaimed (in_order_distinct r.promoted is.promoted) is.new in
    let first = without_length all r.dead order is.dead is.dead_were in
    let second = without_length (without all r.dead) r.swept (in_order-without all r.dead order) is.swept
    (λ n h. in_without all r.dead n (is.swept_were n h) (λ d. not_both (has r.swept n) h (is.once n d))) in
    omega (arith, whole, first, second)
