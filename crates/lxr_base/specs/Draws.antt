-- A linear congruential generator of 64 bits.
use Rattle.std.specs.Prelude.{ℕ, ◌+◌, ◌*◌, ◌/◌, ◌%◌, ◌^◌}

-- the generator's step, modulo 2^64
unfoldable pub step : ℕ → ℕ
step x = (x * 6364136223846793005 + 1442695040888963407) % 2 ^ 64

-- the number that is drawn where a step gave x
unfoldable pub draw : ℕ → ℕ
draw x = x / 2 ^ 33
