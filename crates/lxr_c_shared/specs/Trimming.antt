-- What calls do that make the words of a shared heap's Free block 0.
use Rattle.std.specs.Prelude.{◌≡◌, ◌⊎◌, ℕ, Result, Ok, Err}
use Rattle.lxr_shared_heap.specs.declared.trimming.Trimmed.{Trimmed}
use Rattle.lxr_shared_heap.specs.declared.trimming.Trimmed.TheVariants as trimmed
use Rattle.lxr_shared_heap.specs.Heaps.{Heaped, IsBetween}
use Rattle.lxr_shared_heap.specs.Trimming.{Trims}
use Rattle.lxr_c_base.specs.declared.codes.Code.{Code}
use Rattle.lxr_c_base.specs.declared.codes.Code.TheVariants as code
use Rattle.lxr_c_shared.specs.declared.owned.Owned.{Owned}
use Rattle.lxr_c_shared.specs.declared.owned.Owned.TheVariants as owned

-- of which block they are 0 now, or why of none
abbrev pub told_trimmed : Trimmed → Result ℕ Code
told_trimmed (trimmed.Block block) = Ok block
told_trimmed trimmed.NoneFree = Err code.Nothing
told_trimmed trimmed.Within = Err code.Epoch
told_trimmed trimmed.Ended = Err code.Ended
told_trimmed trimmed.Lost = Err code.Lost

-- the words of the first Free block from one on were to be made 0
abbrev pub TrimsShared : ℕ → Owned → Owned → Result ℕ Code → Type 0
TrimsShared from (owned.Shared x) y answer = (t : Trimmed) × (x' : Heaped) × (y ≡ owned.Shared x') × Trims from t x x' × (answer ≡ told_trimmed t)
TrimsShared from x y answer = (answer ≡ Err code.NoHeap) × (y ≡ x)

-- It was asked where the words of the blocks lie. That is told only between two epochs, and nothing has changed. Of the place no clause speaks.
abbrev pub AsksSharedPlace : Owned → Owned → Code → Type 0
AsksSharedPlace (owned.Shared x) y answer = (y ≡ owned.Shared x) × (((answer ≡ code.Done) × IsBetween x.stage) ⊎ (answer ≡ code.Epoch))
AsksSharedPlace x y answer = (answer ≡ code.NoHeap) × (y ≡ x)
