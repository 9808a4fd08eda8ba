-- Registers that are nil are passed over: what holds up to the first of them holds up to the last, where each changes nothing.
use Rattle.std.proofs.Common.{◌≡◌, ℕ, zero, suc, ◌+◌, ◌-◌, ◌<◌, ◌≤◌, subst, ap, ◌∙◌, arith, List, length}
use Rattle.std.specs.Prelude.{Some, slice_get}
use Rattle.std.proofs.lemmas.Option.{slice_get-get_or}
use Rattle.lxr_layout.specs.declared.Place.{Place}
use Rattle.lxr_layout.specs.Registers.{AreNil, nil}

-- a register that was passed over holds nil
pub nil_there : (places : List Place) (from to k : ℕ) → AreNil places from to → to ≤ length places → from ≤ k → k < to → slice_get places k ≡ Some nil
nil_there places from to k are end low below = slice_get-get_or places k nil (omega (arith, end, below)) ∙ ap Some (are k low below)

-- what holds up to a register holds up to a later one, where each register between changes nothing
pub passed_over : (P : ℕ → Type 0) (from to : ℕ) → from ≤ to → ((k : ℕ) → from ≤ k → k < to → P k → P (k + 1)) → P from → P to
passed_over P from to low step first = subst P (omega (arith, low)) (steps (to - from) (omega (arith, low)))
  where
    steps : (n : ℕ) → from + n ≤ to → P (from + n)
    steps zero below = subst P (omega arith) first
    steps (suc n) below = subst P (omega arith) (step (from + n) (omega arith) (omega (arith, below)) (steps n (omega (arith, below))))
