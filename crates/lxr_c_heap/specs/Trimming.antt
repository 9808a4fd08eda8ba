-- What a call does that makes the words of a Free block 0.
use Rattle.std.specs.Prelude.{◌≡◌, ◌⊎◌, ℕ, Option, None, Some, Result, Ok, Err}
use Rattle.lxr_heap.specs.Trimming.{TrimsHeap}
use Rattle.lxr_c_base.specs.declared.codes.Code.{Code}
use Rattle.lxr_c_base.specs.declared.codes.Code.TheVariants as code
use Rattle.lxr_c_heap.specs.declared.host.HostHeap.{HostHeap}
use Rattle.lxr_c_heap.specs.Keeping.{Kept}

-- the words of the first Free block from one on are 0, and nothing else of the heap has changed
pub record TrimsHost (from : ℕ) (x y : HostHeap) (block : Option ℕ) : Type 0 where
  pub heap : TrimsHeap from x.heap y.heap block
  pub rest : y ≡ record x { heap = y.heap }

-- which block it is, or that no block from there on is Free
abbrev pub told_block : Option ℕ → Result ℕ Code
told_block None = Err code.Nothing
told_block (Some block) = Ok block

-- The words of the first Free block from one on were to be made 0: the handle has no heap, or it was done.
abbrev pub Trims : ℕ → Kept → Kept → Result ℕ Code → Type 0
Trims from None after answer = (answer ≡ Err code.NoHeap) × (after ≡ None)
Trims from (Some x) after answer = (y : HostHeap) × (block : Option ℕ) × (after ≡ Some y) × TrimsHost from x y block × (answer ≡ told_block block)

-- It was asked where the words of the blocks lie: the handle has no heap; or that was told, or nothing was ever written there. Nothing has changed. Of
-- the place no clause speaks.
abbrev pub AsksPlace : Kept → Kept → Code → Type 0
AsksPlace None after answer = (answer ≡ code.NoHeap) × (after ≡ None)
AsksPlace (Some x) after answer = ((answer ≡ code.Done) ⊎ (answer ≡ code.Nothing)) × (after ≡ Some x)
