-- The front of a list of which a part was moved down by one place.
use Rattle.std.proofs.Common.{◌≡◌, ℕ, zero, suc, ◌+◌, ◌-◌, ◌<◌, ◌≤◌, List, [], ◌∷◌, ◌++◌, refl, length, take, drop, arith, sym, ap, ◌∙◌, length-append}
use Rattle.std.specs.List.{copy_within, remove}
use Rattle.std.proofs.Math.Seq.{take-append_seam}
use Rattle.std.proofs.lemmas.List.{drop-take, length-take-le, length-drop}

-- the front of a front
take_less : (xs : List ℕ) (p c : ℕ) → p ≤ c → take p (take c xs) ≡ take p xs
take_less [] zero zero le = refl
take_less [] zero (suc c) le = refl
take_less [] (suc p) zero le = refl
take_less [] (suc p) (suc c) le = refl
take_less (x ∷ xs) zero zero le = refl
take_less (x ∷ xs) zero (suc c) le = refl
take_less (x ∷ xs) (suc p) zero le = absurd (omega arith)
take_less (x ∷ xs) (suc p) (suc c) le = ap (λ (l : List ℕ). x ∷ l) (take_less xs p c (omega arith))

-- the elements behind a place move down to it
pub moved_down : (xs : List ℕ) (c p : ℕ) → p < c → c ≤ length xs → take (c - 1) (copy_within xs (p + 1) c p) ≡ remove (take c xs) p
moved_down xs c p lt few =
    let n = c - (p + 1) in
    let h = take p xs in
    let t = take n (drop (p + 1) xs) in
    let r = drop (p + n) xs in
    let lh : length h ≡ p = length-take-le p xs (omega arith) in
    let ld : length (drop (p + 1) xs) ≡ length xs - (p + 1) = length-drop (p + 1) xs in
    let split : c ≡ suc p + n = omega arith in
    let lt : length t ≡ n = length-take-le n (drop (p + 1) xs) (omega arith) in
    let l : c - 1 ≡ length (h ++ t) = omega (arith, length-append h t, lh, lt, split) in
    let front : take (c - 1) ((h ++ t) ++ r) ≡ h ++ t = ap (λ (k : ℕ). take k ((h ++ t) ++ r)) l ∙ take-append_seam (h ++ t) r in
    let back : drop (suc p) (take c xs) ≡ t =
    ap (λ (k : ℕ). drop (suc p) (take k xs)) split
    ∙ (drop-take (suc p) n xs ∙ ap (λ (k : ℕ). take n (drop k xs)) (let e : suc p ≡ p + 1 = omega arith in e)) in
    front ∙ (ap (λ (l : List ℕ). l ++ t) (sym (take_less xs p c (omega arith))) ∙ ap (λ (l : List ℕ). take p (take c xs) ++ l) (sym back))

-- so they do in an array of which the front of this length counts
pub taken_out : (xs ys zs : List ℕ) (c p : ℕ) → p < length zs → c ≤ length xs → take c xs ≡ zs → ys ≡ copy_within xs (p + 1) c p → take (c - 1) ys ≡ remove zs p
taken_out xs ys zs c p lt few are moved =
    let l : length zs ≡ c = ap length (sym are) ∙ length-take-le c xs few in
    ap (take (c - 1)) moved ∙ (moved_down xs c p (omega arith) few ∙ ap (λ (l : List ℕ). remove l p) are)
