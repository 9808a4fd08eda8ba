-- What was gone before a pause is put together with what it found dead, whichever of the two lists is copied to the end of the other.
use Rattle.std.proofs.Common.{◌≡◌, ℕ, ◌+◌, ◌≤◌, sym, ap, subst, ◌∙◌, inl, inr, arith, Bool, false, List, [], ◌++◌, length}
use Rattle.std.specs.Prelude.{◌⊎◌, ◌||◌}
use Rattle.std.proofs.lemmas.List.Sorted.{IsPermutation-append_comm}
use Rattle.lxr_layout.specs.declared.Name.{Name}
use Rattle.lxr_graph.specs.Distinct.{IsDistinct}
use Rattle.lxr_graph.specs.Listing.{NameList, in_order}
use Rattle.lxr_graph.specs.Names.{has, union}
use Rattle.lxr_graph.proofs.NameLemmas.{distinct_moved, same_members}
use Rattle.lxr_graph.proofs.NameSets.{has-union, in_order-none, in_order-union, one_list}
use Rattle.lxr_heap.specs.Pausing.{with_gone}

-- two lists of names have the same names in order, whichever stands first
same_in_order : (ns ms : List Name) → union (ns ++ ms) [] ≡ union (ms ++ ns) []
same_in_order ns ms = one_list (union (ns ++ ms) []) (union (ms ++ ns) []) (in_order-union (ns ++ ms) [] in_order-none) (in_order-union (ms ++ ns) [] in_order-none) (λ q. (λ h. sym (same q) ∙ h, λ h. same q ∙ h))
  where
    same : (q : Name) → has (union (ns ++ ms) []) q ≡ has (union (ms ++ ns) []) q
    same q = has-union (ns ++ ms) [] q ∙ ap (λ b. b || false) (same_members (ms ++ ns) (ns ++ ms) (IsPermutation-append_comm ms ns) q) ∙ sym (has-union (ms ++ ns) [] q)

-- two lists, of which one was put first
module _ (dead gone first second : NameList) (stand : ((first ≡ dead) × (second ≡ gone)) ⊎ ((first ≡ gone) × (second ≡ dead))) where
  pub once_together : IsDistinct (dead.items ++ gone.items) → IsDistinct (first.items ++ second.items)
  once_together once = elim stand [
    | inl (a, b) ↦ subst (λ (l : NameList). IsDistinct (l.items ++ second.items)) (sym a) (subst (λ (l : NameList). IsDistinct (dead.items ++ l.items)) (sym b) once)
    | inr (a, b) ↦
        let turned = distinct_moved (dead.items ++ gone.items) (gone.items ++ dead.items) (IsPermutation-append_comm dead.items gone.items) once in
        subst (λ (l : NameList). IsDistinct (l.items ++ second.items)) (sym a) (subst (λ (l : NameList). IsDistinct (gone.items ++ l.items)) (sym b) turned)
  ]

  pub fit_together : gone.room ≡ dead.room → length dead.items + length gone.items ≤ dead.room → length first.items + length second.items ≤ first.room
  fit_together rooms fit = elim stand [
    | inl (a, b) ↦
        let f = ap (λ (l : NameList). length l.items) a in
        let s = ap (λ (l : NameList). length l.items) b in
        let room = ap (λ (l : NameList). l.room) a in
        omega (arith, f, s, room, fit)
    | inr (a, b) ↦
        let f = ap (λ (l : NameList). length l.items) a in
        let s = ap (λ (l : NameList). length l.items) b in
        let room = ap (λ (l : NameList). l.room) a in
        omega (arith, f, s, room, rooms, fit)
  ]

  joined : union (first.items ++ second.items) [] ≡ union (dead.items ++ gone.items) []
  joined = elim stand [
    | inl (a, b) ↦ ap (λ (l : NameList). union (l.items ++ second.items) []) a ∙ ap (λ (l : NameList). union (dead.items ++ l.items) []) b
    | inr (a, b) ↦ ap (λ (l : NameList). union (l.items ++ second.items) []) a ∙ ap (λ (l : NameList). union (gone.items ++ l.items) []) b ∙ same_in_order gone.items dead.items
  ]

  first_room : gone.room ≡ dead.room → first.room ≡ dead.room
  first_room rooms = elim stand [
    | inl (a, b) ↦ ap (λ (l : NameList). l.room) a
    | inr (a, b) ↦ ap (λ (l : NameList). l.room) a ∙ rooms
  ]

  pub second_room : gone.room ≡ dead.room → second.room ≡ gone.room
  second_room rooms = elim stand [
    | inl (a, b) ↦ ap (λ (l : NameList). l.room) b
    | inr (a, b) ↦ ap (λ (l : NameList). l.room) b ∙ sym rooms
  ]

  -- together they are the dead with what was gone
  pub together : gone.room ≡ dead.room → (listed : Bool) → in_order (record { items = first.items ++ second.items; room = first.room; listed = listed }) ≡ with_gone dead gone.items
  together rooms listed = λ i. record { items = joined i; room = first_room rooms i; listed = false }
