-- What a single atomic step does to its word.
use Rattle.std.specs.Prelude.{ℕ, ◌+◌, ◌-◌, ◌%◌, ◌^◌, bit_and, bit_or}
use Rattle.lxr_actor.specs.declared.Kindred.{Kindred}
use Rattle.lxr_actor.specs.declared.Kindred.TheVariants.{Load, Store, Swap, Or, And, Add, Sub}

-- the word after a step of this kind, from the word before and the operand; sums and differences wrap
abbrev pub changed : Kindred → ℕ → ℕ → ℕ
changed Load old operand = old
changed Store old operand = operand
changed Swap old operand = operand
changed Or old operand = bit_or old operand
changed And old operand = bit_and old operand
changed Add old operand = (old + operand) % 2 ^ 64
changed Sub old operand = (old + (2 ^ 64 - operand)) % 2 ^ 64
