-- A list of which a part is turned around has the items that it had.
use Rattle.std.proofs.Common.{◌≡◌, ℕ, ◌+◌, ◌-◌, ◌≤◌, sym, ap, subst, ◌∙◌, arith, List, ◌++◌, drop, take}
use Rattle.std.specs.Prelude.{reverse}
use Rattle.std.specs.List.{between}
use Rattle.std.specs.List.Sorted.{IsPermutation}
use Rattle.std.proofs.lemmas.List.{drop-drop, take-append-drop}
use Rattle.std.proofs.lemmas.List.Sorted.{IsPermutation-append_left, IsPermutation-append_right, IsPermutation-reverse}
use Rattle.lxr_base.specs.Roomy.{Roomy, turned}

module _ {T : Type 0} where
  -- what stands before, within and behind a part
  parts_joined : (xs : List T) (from end : ℕ) → from ≤ end → take from xs ++ (between from end xs ++ drop end xs) ≡ xs
  parts_joined xs from end within =
      let behind : end ≡ from + (end - from) = omega (arith, within) in
      ap (λ ys. take from xs ++ (between from end xs ++ ys)) (ap (λ k. drop k xs) behind ∙ sym (drop-drop (end - from) from xs))
      ∙ ap (λ ys. take from xs ++ ys) (take-append-drop (end - from) (drop from xs))
      ∙ take-append-drop from xs

  pub turned_permutes : (l : Roomy T) (from end : ℕ) → from ≤ end → IsPermutation l.items (turned l from end).items
  turned_permutes l from end within =
      let xs = l.items in
      let inner = IsPermutation-append_left (drop end xs) (between from end xs) (reverse (between from end xs)) (IsPermutation-reverse (between from end xs)) in
      subst (λ ys. IsPermutation ys (turned l from end).items) (parts_joined xs from end within) (IsPermutation-append_right (take from xs) _ _ inner)
