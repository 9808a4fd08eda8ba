-- The set bits of a word, the lowest first.
use Rattle.std.specs.Prelude.{◌≡◌, ◌≢◌, ℕ, ◌<◌, ◌≤◌}
use Rattle.std.specs.Int.{bit_at}

-- the lowest set bit of a word is this, and without it the word is the rest
pub record TakesLowest (word rest bit : ℕ) : Type 0 where
  pub within : bit < 64
  pub set : bit_at word bit ≡ 1
  pub lowest : (i : ℕ) → i < bit → bit_at word i ≡ 0
  pub cleared : bit_at rest bit ≡ 0
  pub others : (i : ℕ) → i ≢ bit → bit_at rest i ≡ bit_at word i
  pub less : rest < word

-- the set bits of a word below one are taken, and those from it on are left
pub record AreLeft (word rest from : ℕ) : Type 0 where
  pub taken : (i : ℕ) → i < from → bit_at rest i ≡ 0
  pub left : (i : ℕ) → from ≤ i → bit_at rest i ≡ bit_at word i

-- no bit of a word is set from one on and below another
abbrev pub NoBit : ℕ → ℕ → ℕ → Type 0
NoBit word from end = (k : ℕ) → from ≤ k → k < end → bit_at word k ≡ 0

-- the first bit of a word, from one on, that is set
pub record IsNextBit (word from bit : ℕ) : Type 0 where
  pub reached : from ≤ bit
  pub within : bit < 64
  pub set : bit_at word bit ≡ 1
  pub passed : NoBit word from bit
