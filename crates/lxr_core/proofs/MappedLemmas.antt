-- Lists by index: what stands in a mapped list, and what holds of each element where one has changed.
use Rattle.std.proofs.Common.{◌≡◌, ◌≢◌, ℕ, zero, suc, ◌≤◌, refl, ap, subst, ◌∙◌, arith, List, [], ◌∷◌, length, map}
use Rattle.std.specs.Prelude.{Some, slice_get, slice_set}
use Rattle.std.specs.Option.{option_map}
use Rattle.std.proofs.lemmas.Option.{slice_get-map}

-- what stands at an index is mapped
pub mapped : {X Y : Type 0} (f : X → Y) (xs : List X) (i : ℕ) (x : X) → slice_get xs i ≡ Some x → slice_get (map f xs) i ≡ Some (f x)
mapped f xs i x there = slice_get-map f xs i ∙ ap (option_map f) there

-- what stands in the mapped list is the image of what stands there
pub mapped_from : {X Y : Type 0} (f : X → Y) (xs : List X) (i : ℕ) (y : Y) → slice_get (map f xs) i ≡ Some y → (x : X) × (slice_get xs i ≡ Some x) × (y ≡ f x)
mapped_from f [] i y e = absurd (cc)
mapped_from f (x ∷ xs) zero y e = (x, refl, cc)
mapped_from f (x ∷ xs) (suc i) y e = mapped_from f xs i y e

-- an element put where it stands changes nothing
pub set_itself : {X : Type 0} (xs : List X) (n : ℕ) (x : X) → slice_get xs n ≡ Some x → slice_set xs n x ≡ xs
set_itself [] n x e = cc
set_itself (y ∷ xs) zero x e = let same : x ≡ y = cc in ap (λ z. z ∷ xs) same
set_itself (y ∷ xs) (suc n) x e = ap (λ ys. y ∷ ys) (set_itself xs n x e)

-- what holds of each holds of each where one of which it holds is put
pub each_set : {X : Type 0} (P : X → Type 0) (xs : List X) (n : ℕ) (x : X) → P x → ((i : ℕ) (y : X) → slice_get xs i ≡ Some y → P y) → (i : ℕ) (y : X) → slice_get (slice_set xs n x) i ≡ Some y → P y
each_set P [] n x new each i y e = each i y e
each_set P (z ∷ xs) zero x new each zero y e = let same : x ≡ y = cc in subst P same new
each_set P (z ∷ xs) zero x new each (suc i) y e = each (suc i) y e
each_set P (z ∷ xs) (suc n) x new each zero y e = each 0 y e
each_set P (z ∷ xs) (suc n) x new each (suc i) y e = each_set P xs n x new (λ j w h. each (suc j) w h) i y e

-- and so where it holds of each other
pub each_put : {X : Type 0} (P : X → Type 0) (xs : List X) (n : ℕ) (x : X) → P x → ((i : ℕ) (y : X) → i ≢ n → slice_get xs i ≡ Some y → P y) → (i : ℕ) (y : X) → slice_get (slice_set xs n x) i ≡ Some y → P y
each_put P [] n x new each i y e = absurd (cc)
each_put P (z ∷ xs) zero x new each zero y e = let same : x ≡ y = cc in subst P same new
each_put P (z ∷ xs) zero x new each (suc i) y e = each (suc i) y (λ k. omega (arith, k)) e
each_put P (z ∷ xs) (suc n) x new each zero y e = each 0 y (λ k. omega (arith, k)) e
each_put P (z ∷ xs) (suc n) x new each (suc i) y e = each_put P xs n x new (λ j w other h. each (suc j) w (λ k. other (let same : j ≡ n = omega (arith, k) in same)) h) i y e

-- two functions that give the same of each item give one list
pub map_alike : {X Y : Type 0} (f g : X → Y) (xs : List X) → ((i : ℕ) (x : X) → slice_get xs i ≡ Some x → f x ≡ g x) → map f xs ≡ map g xs
map_alike f g [] each = refl
map_alike f g (x ∷ xs) each = ap (λ y. y ∷ map f xs) (each 0 x refl) ∙ ap (λ ys. g x ∷ ys) (map_alike f g xs (λ i z e. each (suc i) z e))

-- and so where another item is put and they give the same of each other
pub set_alike : {X Y : Type 0} (f g : X → Y) (xs : List X) (n : ℕ) (y : Y) → ((i : ℕ) (x : X) → i ≢ n → slice_get xs i ≡ Some x → f x ≡ g x) → slice_set (map f xs) n y ≡ slice_set (map g xs) n y
set_alike f g [] n y each = refl
set_alike f g (x ∷ xs) zero y each = ap (λ ys. y ∷ ys) (map_alike f g xs (λ i z e. each (suc i) z (λ k. omega (arith, k)) e))
set_alike f g (x ∷ xs) (suc n) y each =
    ap (λ z. z ∷ slice_set (map f xs) n y) (each 0 x (λ k. omega (arith, k)) refl)
    ∙ ap (λ ys. g x ∷ ys) (set_alike f g xs n y (λ i z other e. each (suc i) z (λ k. other (let same : i ≡ n = omega (arith, k) in same)) e))

-- lists that have the same at each index
pub same_by_index : {X : Type 0} (xs ys : List X) → length xs ≡ length ys → ((i : ℕ) (y : X) → slice_get ys i ≡ Some y → slice_get xs i ≡ Some y) → xs ≡ ys
same_by_index [] [] many each = refl
same_by_index [] (y ∷ ys) many each = absurd (omega arith)
same_by_index (x ∷ xs) [] many each = absurd (omega arith)
same_by_index (x ∷ xs) (y ∷ ys) many each =
    let first : Some x ≡ Some y = each 0 y refl in
    let here : x ≡ y = cc in
    ap (λ z. z ∷ xs) here ∙ ap (λ z. y ∷ z) (same_by_index xs ys (omega (arith, many)) (λ i z e. each (suc i) z e))

-- the first item of a list that has some
pub first_item : {X : Type 0} (xs : List X) → 1 ≤ length xs → (x : X) × (slice_get xs 0 ≡ Some x)
first_item [] some = absurd (omega arith)
first_item (x ∷ xs) some = (x, refl)
