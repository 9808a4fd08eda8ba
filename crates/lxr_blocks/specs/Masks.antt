-- The lines of a block as the bits of a number.
use Rattle.std.specs.Prelude.{◌≡◌, ◌↔◌, ℕ, ◌+◌, ◌<◌, ◌≤◌, Bool, true, false, IsBitSet, IsTrue, if◌then◌else◌, not}
use Rattle.std.specs.Int.{bit_at}
use Rattle.lxr_layout.specs.declared.TheConstants.{LINES_IN_BLOCK}

-- bit i is set exactly where line i is one of these
abbrev pub IsMask : ℕ → (ℕ → Bool) → Type 0
IsMask mask lines = (i : ℕ) → i < LINES_IN_BLOCK → IsBitSet mask i ↔ IsTrue (lines i)

-- 1 where something holds
abbrev pub one_if : Bool → ℕ
one_if true = 1
one_if false = 0

-- 1 where two lines differ in it
abbrev pub differ : Bool → Bool → ℕ
differ a b = one_if (if a then not b else b)

-- the edges of a block's free lines from one on: bit i is set exactly where line i is free and the line before it isn't, or the
-- other way round; the line before the first of these counts as taken
pub record AreEdges (edges : ℕ) (free : ℕ → Bool) (from : ℕ) : Type 0 where
  pub below : (i : ℕ) → i < from → bit_at edges i ≡ 0
  pub here : from < LINES_IN_BLOCK → bit_at edges from ≡ one_if (free from)
  pub behind : (i : ℕ) → from ≤ i → i + 1 < LINES_IN_BLOCK → bit_at edges (i + 1) ≡ differ (free i) (free (i + 1))
