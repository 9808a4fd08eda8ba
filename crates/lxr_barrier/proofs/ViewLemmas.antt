-- One member of a list changes: what holds of all, sums, and counts of a longer list.
use Rattle.std.proofs.Common.{◌≡◌, ℕ, ◌+◌, ◌<◌, refl, sym, ap, subst, ◌∙◌, arith, Bool, true, false, List, [], ◌∷◌, ◌++◌, length, nat_eq, get_or, get_or-set_same, get_or-set_other, set, length-set, cond, add-zero}
use Rattle.std.specs.Prelude.{Some, slice_get}
use Rattle.std.specs.List.{All, sum_by, count_by}
use Rattle.std.proofs.lemmas.Option.{slice_get_within, get_or_from_slice_get}
use Rattle.std.proofs.lemmas.List.{set-get_or}
use Rattle.std.proofs.lemmas.List.Sums.{sum_by-set, sum_by_push}

module _ {X : Type 0} where
  -- what holds of all holds of a member
  pub all_at : (P : X → Type 0) (xs : List X) (i : ℕ) (x : X) → slice_get xs i ≡ Some x → All P xs → P x
  all_at P xs i x at h = subst P (get_or_from_slice_get xs i x x at) (h i x (slice_get_within xs i x at))

  pub all_to : (P Q : X → Type 0) (xs : List X) → ((x : X) → P x → Q x) → All P xs → All Q xs
  all_to P Q xs f h k d lt = f (get_or xs k d) (h k d lt)

  -- what holds of all once a member has changed held of all before, if it held of that member
  pub all_unset : (P : X → Type 0) (xs : List X) (i : ℕ) (x y : X) → slice_get xs i ≡ Some x → (P y → P x) → All P (set xs i y) → All P xs
  all_unset P xs i x y at back h k d lt = at_index P xs i x y at back h k d lt (nat_eq k i) refl
    where
      at_index : (P : X → Type 0) (xs : List X) (i : ℕ) (x y : X) → slice_get xs i ≡ Some x → (P y → P x) → All P (set xs i y) → (k : ℕ) (d : X) → k < length xs → (b : Bool) → nat_eq k i ≡ b → P (get_or xs k d)
      at_index P xs i x y at back h k d lt true e =
          let q : k ≡ i = grind arith in
          let here : y ≡ get_or (set xs i y) k d = sym (ap (λ j. get_or (set xs i y) j d) q ∙ get_or-set_same xs i y d (slice_get_within xs i x at)) in
          let old : x ≡ get_or xs k d = sym (ap (λ j. get_or xs j d) q ∙ get_or_from_slice_get xs i x d at) in
          subst P old (back (subst P (sym here) (h k d (subst (λ n. k < n) (sym (length-set xs i y)) lt))))
      at_index P xs i x y at back h k d lt false e = subst P (get_or-set_other xs i k y d (grind arith)) (h k d (subst (λ n. k < n) (sym (length-set xs i y)) lt))

  pub set_itself : (xs : List X) (i : ℕ) (x : X) → slice_get xs i ≡ Some x → set xs i x ≡ xs
  set_itself xs i x at = ap (set xs i) (sym (get_or_from_slice_get xs i x x at)) ∙ set-get_or xs i x

  -- a sum after one member has changed
  pub sum_set : (f : X → ℕ) (xs : List X) (i : ℕ) (x y : X) → slice_get xs i ≡ Some x → sum_by f (set xs i y) + f x ≡ sum_by f xs + f y
  sum_set f xs i x y at = subst (λ z. sum_by f (set xs i y) + f z ≡ sum_by f xs + f y) (get_or_from_slice_get xs i x x at) (sum_by-set f xs i y x (slice_get_within xs i x at))

  -- a count over a longer list
  pub count_yes : (p : X → Bool) (xs : List X) (x : X) → p x ≡ true → count_by p (xs ++ x ∷ []) ≡ count_by p xs + 1
  count_yes p xs x e = sum_by_push (λ y. cond (p y) 1 0) xs x ∙ ap (λ b. count_by p xs + cond b 1 0) e

  pub count_no : (p : X → Bool) (xs : List X) (x : X) → p x ≡ false → count_by p (xs ++ x ∷ []) ≡ count_by p xs
  count_no p xs x e = sum_by_push (λ y. cond (p y) 1 0) xs x ∙ ap (λ b. count_by p xs + cond b 1 0) e ∙ add-zero (count_by p xs)
