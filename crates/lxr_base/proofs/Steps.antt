-- Arithmetic that wraps twice is the generator's step.
use Rattle.std.proofs.Common.{◌≡◌, ℕ, ◌+◌, ◌*◌, ◌%◌, ◌<◌, sym, ap, ◌∙◌, lit<}
use Rattle.std.proofs.Math.Nat.{add-mod, mod-eq_of_lt, mod-lt}
use Rattle.lxr_base.specs.Draws.{step}

-- a sum may be reduced before and after
add_wraps : (a b m : ℕ) → 0 < m → (a % m + b) % m ≡ (a + b) % m
add_wraps a b m some =
    let again : a % m % m ≡ a % m = mod-eq_of_lt (mod-lt a some) in
    add-mod (a % m) b m ∙ ap (λ (r : ℕ). (r + b % m) % m) again ∙ sym (add-mod a b m)

-- the product and the sum of a step, each reduced
pub step_wraps : (x : ℕ) → (x * 6364136223846793005 % 18446744073709551616 + 1442695040888963407) % 18446744073709551616 ≡ step x
unfolding step
step_wraps x = add_wraps (x * 6364136223846793005) 1442695040888963407 18446744073709551616 (lit< tt)
