-- What a gate has let pass. `passed` is what it tells of a thread and the number of an operation, from 0; its call alone gives that.
use Rattle.std.specs.Prelude.{◌≡◌, ℕ, ◌<◌, ◌≤◌, true, false, Some, List, length, slice_get}
use Rattle.lxr_mutator.specs.Mutating.{Mutating, rests_in}

-- the operation that a mutator is about to begin was let pass; one that is in progress was so before it began
abbrev pub IsLetPass : (ℕ → ℕ → Type 0) → Mutating → Type 0
IsLetPass passed m = rests_in m.phase ≡ true → passed m.thread (length m.replies.items)

-- each operation to which a mutator has gained a reply was let pass
abbrev pub GainedArePassed : (ℕ → ℕ → Type 0) → Mutating → Mutating → Type 0
GainedArePassed passed m m' = (k : ℕ) → length m.replies.items ≤ k → k < length m'.replies.items → passed m.thread k

-- so it is with each of these mutators that rested before, and their threads' ends count as operations
abbrev pub HavePassed : (ℕ → ℕ → Type 0) → List Mutating → List Mutating → Type 0
HavePassed passed before after = (i : ℕ) (m m' : Mutating) → slice_get before i ≡ Some m → slice_get after i ≡ Some m' → rests_in m.phase ≡ true → GainedArePassed passed m m'

-- the same amid its steps: the operation that is in progress was let pass too
pub record IsLetPassSince (passed : ℕ → ℕ → Type 0) (m m' : Mutating) : Type 0 where
  pub thread : m'.thread ≡ m.thread
  pub gained : GainedArePassed passed m m'
  pub begun : rests_in m'.phase ≡ false → passed m.thread (length m'.replies.items)
