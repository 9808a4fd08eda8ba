-- The registers of all threads, of which a pause looks at those in use.
use Rattle.std.specs.Prelude.{◌≡◌, ℕ, ◌+◌, ◌*◌, ◌<◌, ◌≤◌, List, [], ◌∷◌, ◌++◌, length, nat_eq, take, drop, slice_index_or, if◌then◌else◌}
use Rattle.std.specs.List.{All}
use Rattle.lxr_layout.specs.declared.TheConstants.{REGISTERS}
use Rattle.lxr_layout.specs.declared.Place.{Place}
use Rattle.lxr_layout.specs.Registers.{AreNil, held_at}
use Rattle.lxr_image.specs.declared.registers.RegisterFile.TheInside.{Inside}

-- what each register holds, the 256 of thread 1 first, and how many of its own a thread may name
pub record Registers : Type 0 where
  pub items : List Place
  pub width : ℕ

-- how many registers hold something
abbrev pub holding : List Place → ℕ
holding [] = 0
holding (p ∷ ps) = (if nat_eq p.0 0 then 0 else 1) + holding ps

-- the registers of one thread, thread 1 having number 0
abbrev pub row_in : List Place → ℕ → List Place
row_in places thread = take REGISTERS (drop (REGISTERS * thread) places)

-- those of all threads, with these in place of one thread's
abbrev pub with_row : List Place → ℕ → List Place → List Place
with_row places thread row = take (REGISTERS * thread) places ++ row ++ drop (REGISTERS * thread + REGISTERS) places

-- what contracts see of the fields
abbrev pub seen : Inside → Registers
seen r = record { items = r.places.items; width = r.width }

-- Each thread has 256 registers. Of these so many are in use as the fields tell for it, no more than it may name, and the others are nil.
pub record AreInUse (r : Inside) : Type 0 where
  pub many : length r.places.items ≡ REGISTERS * length r.in_use.items
  pub width : r.width ≤ REGISTERS
  pub few : All (λ n. n ≤ r.width) r.in_use.items
  pub others : (thread : ℕ) → AreNil r.places.items (REGISTERS * thread + slice_index_or r.in_use.items thread 0) (REGISTERS * thread + REGISTERS)

-- as many registers hold something as all threads together may name, at most
abbrev pub HoldFew : Registers → ℕ → Type 0
HoldFew r threads = length r.items ≡ REGISTERS * threads → holding r.items ≤ threads * r.width

-- registers that a thread may not name are nil, thread 1 having number 0
abbrev pub UnnamedAreNil : Registers → Type 0
UnnamedAreNil r = (thread : ℕ) → AreNil r.items (REGISTERS * thread + r.width) (REGISTERS * thread + REGISTERS)

-- the registers from one on to below another hold the same in both lists
abbrev pub AreSame : List Place → List Place → ℕ → ℕ → Type 0
AreSame places others from end = (k : ℕ) → from ≤ k → k < end → held_at places k ≡ held_at others k
