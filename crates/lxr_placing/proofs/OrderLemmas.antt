-- Lists whose items stand in order, each behind the one before it.
use Rattle.std.proofs.Common.{◌≡◌, ℕ, zero, suc, ◌+◌, ◌*◌, ◌<◌, ◌≤◌, refl, sym, ap, subst, ◌∙◌, arith, List, [], ◌∷◌, ◌++◌, length, length-append}
use Rattle.std.proofs.lemmas.List.{map-append}
use Rattle.std.specs.Prelude.{map, slice_index}
use Rattle.lxr_blocks.specs.Listing.{joined}

-- the item of a number
abbrev pub IsAt : {A : Type 0} → List A → ℕ → A → Type 0
IsAt [] k x = ⊥
IsAt (y ∷ ys) zero x = x ≡ y
IsAt (y ∷ ys) (suc k) x = IsAt ys k x

-- the items of a list have a property, and each reaches from a number to another, in order within these two
abbrev pub AreInOrder : {A : Type 0} → (A → Type 0) → (A → ℕ) → (A → ℕ) → ℕ → ℕ → List A → Type 0
AreInOrder P first behind from end [] = from ≤ end
AreInOrder P first behind from end (x ∷ xs) = (from ≤ first x) × (first x ≤ behind x) × P x × AreInOrder P first behind (behind x) end xs

-- ---- one list behind another

order_from : {A : Type 0} (P : A → Type 0) (first behind : A → ℕ) (from less end : ℕ) (xs : List A) → less ≤ from → AreInOrder P first behind from end xs → AreInOrder P first behind less end xs
order_from P first behind from less end [] low is = omega arith
order_from P first behind from less end (x ∷ xs) low (after, within, has, is) = (omega arith, within, has, is)

pub order_append : {A : Type 0} (P : A → Type 0) (first behind : A → ℕ) (from amid end : ℕ) (xs ys : List A)
    → AreInOrder P first behind from amid xs → AreInOrder P first behind amid end ys → AreInOrder P first behind from end (xs ++ ys)
order_append P first behind from amid end [] ys before after = order_from P first behind amid from end ys before after
order_append P first behind from amid end (x ∷ xs) ys (low, within, has, is) after = (low, within, has, order_append P first behind (behind x) amid end xs ys is after)

-- ---- items of a list

pub item_of : {A : Type 0} (xs : List A) (k : ℕ) → k < length xs → (x : A) × IsAt xs k x
item_of [] k within = absurd (omega arith)
item_of (x ∷ xs) zero within = (x, refl)
item_of (x ∷ xs) (suc k) within = item_of xs k (omega arith)

pub item_read : {A : Type 0} (f : A → ℕ) (xs : List A) (k : ℕ) (x : A) → IsAt xs k x → slice_index (map f xs) k ≡ f x
item_read f [] k x at = absurd at
item_read f (y ∷ ys) zero x at = ap f (sym at)
item_read f (y ∷ ys) (suc k) x at = item_read f ys k x at

-- an item has the property, and reaches from behind the first number
pub item_is : {A : Type 0} (P : A → Type 0) (first behind : A → ℕ) (from end : ℕ) (xs : List A) (k : ℕ) (x : A) → AreInOrder P first behind from end xs → IsAt xs k x → P x × (from ≤ first x)
item_is P first behind from end [] k x is at = absurd at
item_is P first behind from end (y ∷ ys) zero x (low, within, has, is) at = (subst P (sym at) has, subst (λ z. from ≤ first z) (sym at) low)
item_is P first behind from end (y ∷ ys) (suc k) x (low, within, has, is) at =
    let later = item_is P first behind (behind y) end ys k x is at in
    let reached = later.1 in
    (later.0, omega arith)

-- an item ends before each later one begins
pub items_apart : {A : Type 0} (P : A → Type 0) (first behind : A → ℕ) (from end : ℕ) (xs : List A) (j k : ℕ) (x y : A)
    → AreInOrder P first behind from end xs → j < k → IsAt xs j x → IsAt xs k y → behind x ≤ first y
items_apart P first behind from end [] j k x y is less at too = absurd at
items_apart P first behind from end (z ∷ zs) j zero x y is less at too = absurd (omega arith)
items_apart P first behind from end (z ∷ zs) zero (suc k) x y (low, within, has, is) less at too =
    subst (λ w. behind w ≤ first y) (sym at) (item_is P first behind (behind z) end zs k y is too).1
items_apart P first behind from end (z ∷ zs) (suc j) (suc k) x y (low, within, has, is) less at too =
    items_apart P first behind (behind z) end zs j k x y is (omega arith) at too

-- ---- lists of blocks, one after another

-- what the blocks before one have, block after block
abbrev pub all_of : {A : Type 0} → (ℕ → List A) → ℕ → List A
all_of f zero = []
all_of f (suc b) = all_of f b ++ f b

pub all_in_order : {A : Type 0} (P : A → Type 0) (first behind : A → ℕ) (f : ℕ → List A) (size n : ℕ)
    → ((b : ℕ) → b < n → AreInOrder P first behind (size * b) (size * (b + 1)) (f b)) → AreInOrder P first behind 0 (size * n) (all_of f n)
all_in_order P first behind f size zero each = omega arith
all_in_order P first behind f size (suc b) each =
    order_append P first behind 0 (size * b) (size * suc b) (all_of f b) (f b)
    (all_in_order P first behind f size b (λ k below. each k (omega (arith, below))))
    (subst (λ z. AreInOrder P first behind (size * b) (size * z) (f b)) (let e : b + 1 ≡ suc b = omega arith in e) (each b (omega arith)))

-- numbers of items that are joined are the items' numbers
pub joined_is : {A : Type 0} (g : A → ℕ) (f : ℕ → List ℕ) (h : ℕ → List A) (n : ℕ) → ((b : ℕ) → f b ≡ map g (h b)) → joined f n ≡ map g (all_of h n)
unfolding joined
joined_is g f h zero same = refl
joined_is g f h (suc b) same =
    ap (λ xs. xs ++ f b) (joined_is g f h b same) ∙ ap (λ ys. map g (all_of h b) ++ ys) (same b) ∙ sym (map-append g (all_of h b) (h b))

pub joined_few : (f : ℕ → List ℕ) (most n : ℕ) → ((b : ℕ) → length (f b) ≤ most) → length (joined f n) ≤ most * n
unfolding joined
joined_few f most zero few = omega arith
joined_few f most (suc b) few =
    let before = joined_few f most b few in
    let here = few b in
    let both = length-append (joined f b) (f b) in
    let product : most * suc b ≡ most * b + most = grind arith in
    omega arith
