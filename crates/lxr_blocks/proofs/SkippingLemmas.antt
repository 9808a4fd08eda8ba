-- What a test of counts tells of a line, and where the runs begin that are long enough.
use Rattle.std.proofs.Common.{◌≡◌, ℕ, ◌+◌, ◌<◌, ◌≤◌, refl, sym, Bool, true, false}
use Rattle.std.specs.Prelude.{◌↔◌, IsTrue}
use Rattle.lxr_layout.specs.declared.runs.Run.{Run}
use Rattle.lxr_image.specs.Tables.{Tables}
use Rattle.lxr_blocks.specs.Lines.{IsFreeRun, are_zero}
use Rattle.lxr_blocks.proofs.LineLemmas.{all_zero, zero_each}
use Rattle.lxr_blocks.proofs.MaskLemmas.{not_true}

-- a test of whether so many counts are 0
pub zero_told : (counts : ℕ → ℕ) (g k : ℕ) (told : Bool) → IsTrue told ↔ ((i : ℕ) → i < k → counts (g + i) ≡ 0) → told ≡ are_zero counts g k
zero_told counts g k true tells = sym (all_zero counts g k (tells.0 refl))
zero_told counts g k false tells = sym (not_true (are_zero counts g k) (λ yes. let no : false ≡ true = tells.1 (zero_each counts g k yes) in cc))

-- each run of a block that has so many lines begins at a line or behind it
abbrev pub BeginsBehind : Tables → ℕ → ℕ → ℕ → ℕ → Type 0
BeginsBehind t blocks b lines first = (q : Run) → IsFreeRun t blocks q → q.block ≡ b → lines ≤ q.lines → first ≤ q.line
