-- The bits and marks that an object leaves are cleared.
use Rattle.std.specs.Prelude.{◌≡◌, ◌≢◌, ℕ, Bool, false, List, IsTrue}
use Rattle.lxr_layout.specs.declared.Name.{Name}
use Rattle.lxr_graph.specs.Names.{has}
use Rattle.lxr_image.specs.Reads.{granule_of}

-- the bits at which the objects of these names begin are clear, and all others are as they were
pub record LosesBits (before after : ℕ → Bool) (at : Name → ℕ) (gone : List Name) : Type 0 where
  pub reclaimed : (n : Name) → IsTrue (has gone n) → after (granule_of (at n)) ≡ false
  pub others : (k : ℕ) → ((n : Name) → IsTrue (has gone n) → granule_of (at n) ≢ k) → after k ≡ before k
