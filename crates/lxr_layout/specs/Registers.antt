-- Registers that hold nothing.
use Rattle.std.specs.Prelude.{◌≡◌, ℕ, ◌<◌, ◌≤◌, List, slice_index_or}
use Rattle.lxr_layout.specs.declared.Place.{Place}

-- the place of nothing
abbrev pub nil : Place
nil = record { 0 = 0 }

-- what a register holds, by its index: nil where there is none such
abbrev pub held_at : List Place → ℕ → Place
held_at places k = slice_index_or places k nil

-- the registers from one on to below another hold nothing
abbrev pub AreNil : List Place → ℕ → ℕ → Type 0
AreNil places from end = (k : ℕ) → from ≤ k → k < end → held_at places k ≡ nil
