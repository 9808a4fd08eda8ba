-- A sum over all mutators, once one of them shows another thread state.
use Rattle.std.proofs.Common.{◌≡◌, ℕ, zero, suc, ◌+◌, ◌*◌, ◌≤◌, refl, ap, arith, List, [], ◌∷◌, length}
use Rattle.std.specs.Prelude.{Some, slice_get, slice_set}
use Rattle.lxr_core_invariant.specs.ThreadStates.{ThreadState}
use Rattle.lxr_core_invariant.specs.Drawn.{total}

-- a sum over all mutators changes by what one of them contributes
pub total_set : (f : ThreadState → ℕ) (thread_states : List ThreadState) (i : ℕ) (v w : ThreadState) → slice_get thread_states i ≡ Some v → total f (slice_set thread_states i w) + f v ≡ total f thread_states + f w
unfolding total
total_set f [] i v w there = absurd (cc)
total_set f (x ∷ thread_states) zero v w there = let same : x ≡ v = cc in let e : f x ≡ f v = ap f same in omega (arith, e)
total_set f (x ∷ thread_states) (suc i) v w there = let rest = total_set f thread_states i v w there in omega (arith, rest)

-- it falls by nothing where that doesn't, and grows where that does
pub total_kept : (f : ThreadState → ℕ) (thread_states : List ThreadState) (i : ℕ) (v w : ThreadState) (c d : ℕ) → slice_get thread_states i ≡ Some v → c + f v ≤ d + f w → d ≤ total f thread_states → c ≤ total f (slice_set thread_states i w)
total_kept f thread_states i v w c d there grows bound = let e = total_set f thread_states i v w there in omega (arith, e, grows, bound)

-- a bound on each contribution bounds the sum
pub total_bound : (f : ThreadState → ℕ) (thread_states : List ThreadState) (most : ℕ) → ((i : ℕ) (v : ThreadState) → slice_get thread_states i ≡ Some v → f v ≤ most) → total f thread_states ≤ length thread_states * most
unfolding total
total_bound f [] most each = omega arith
total_bound f (v ∷ thread_states) most each =
    let first = each 0 v refl in
    let rest = total_bound f thread_states most (λ i w there. each (suc i) w there) in
    grind (arith, first, rest)
