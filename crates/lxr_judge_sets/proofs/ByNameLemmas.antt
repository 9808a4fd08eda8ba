-- A page is filled up with what all names without a cell have, so that only the serial that is set gets another value.
use Rattle.std.proofs.Common.{◌≡◌, ℕ, zero, suc, ◌-◌, ◌<◌, ◌≤◌, refl, sym, ap, subst, ◌∙◌, inl, inr, arith, cond, List, [], ◌∷◌, ◌++◌, length, get_or, set, take, replicate, nat_eq}
use Rattle.std.proofs.lemmas.Bool.{cases_Bool, eqb-false, eqb-true}
use Rattle.std.proofs.lemmas.List.{get_or-set_other, get_or-set_same, length-append, length-replicate, take_all}
use Rattle.lxr_judge_sets.specs.declared.by_name.TheConstants.{PAGE}

get_or-filled : {T : Type 0} (m k : ℕ) (x : T) → get_or (replicate m x) k x ≡ x
get_or-filled zero k x = refl
get_or-filled (suc m) zero x = refl
get_or-filled (suc m) (suc k) x = get_or-filled m k x

get_or-filled_up : {T : Type 0} (xs : List T) (m k : ℕ) (x : T) → get_or (xs ++ replicate m x) k x ≡ get_or xs k x
get_or-filled_up [] m k x = get_or-filled m k x
get_or-filled_up (y ∷ xs) m zero x = refl
get_or-filled_up (y ∷ xs) m (suc k) x = get_or-filled_up xs m k x

-- what was filled up has the values that it had
pub filled_up : {T : Type 0} (xs : List T) (n k : ℕ) (x : T) → length xs ≤ n
    → get_or (take n xs ++ replicate (n - length xs) x) k x ≡ get_or xs k x
filled_up xs n k x h = ap (λ ys. get_or (ys ++ replicate (n - length xs) x) k x) (take_all n xs h) ∙ get_or-filled_up xs (n - length xs) k x

-- a value at an index that there is, where all else is as in another list
pub set_reads : {T : Type 0} (xs ys : List T) (at k : ℕ) (v x : T) → at < length ys → get_or ys k x ≡ get_or xs k x
    → get_or (set ys at v) k x ≡ cond (nat_eq k at) v (get_or xs k x)
set_reads xs ys at k v x h same = elim (cases_Bool (nat_eq k at)) [
  | inl e ↦
      let is : k ≡ at = eqb-true k at e in
      subst (λ b. get_or (set ys at v) k x ≡ cond b v (get_or xs k x)) (sym e)
      (ap (λ j. get_or (set ys at v) j x) is ∙ get_or-set_same ys at v x h)
  | inr e ↦
      subst (λ b. get_or (set ys at v) k x ≡ cond b v (get_or xs k x)) (sym e)
      (get_or-set_other ys at k v x (eqb-false k at e) ∙ same)
]

-- a page that was filled up for a value
pub page_filled : {T : Type 0} (xs ys : List T) (len index k : ℕ) (v x : T) → length xs ≡ len → len ≤ index → index < PAGE
    → ys ≡ take PAGE xs ++ replicate (PAGE - len) x
    → get_or (set ys index v) k x ≡ cond (nat_eq k index) v (get_or xs k x)
page_filled xs ys len index k v x long past inside is =
    let within : length xs ≤ PAGE = omega (arith, long, past, inside) in
    let whole = ap length is in
    let parts = length-append (take PAGE xs) (replicate (PAGE - len) x) in
    let taken = ap length (take_all PAGE xs within) in
    let filled = length-replicate (PAGE - len) x in
    set_reads xs ys index k v x (omega (arith, whole, parts, taken, filled, long, past, inside))
    (ap (λ zs. get_or zs k x) is ∙ ap (λ m. get_or (take PAGE xs ++ replicate (PAGE - m) x) k x) (sym long) ∙ filled_up xs PAGE k x within)
