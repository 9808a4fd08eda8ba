-- What making the words of a Free block 0 does to a heap that threads share.
use Rattle.std.specs.Prelude.{◌≡◌, ℕ, Option, None, Some}
use Rattle.lxr_image.specs.declared.space.Space.{Space}
use Rattle.lxr_placing.specs.Trimming.{ZeroesNext}
use Rattle.lxr_shared_heap.specs.declared.heap.Stage.{Stage}
use Rattle.lxr_shared_heap.specs.declared.heap.Stage.TheVariants as stage
use Rattle.lxr_shared_heap.specs.declared.trimming.Trimmed.{Trimmed}
use Rattle.lxr_shared_heap.specs.declared.trimming.Trimmed.TheVariants as trimmed
use Rattle.lxr_shared_heap.specs.Heaps.{HasMoved, Heaped, IsEnded, IsWithin}

-- It stands between two epochs, and of the space there the words of the first Free block from one on are 0: nothing else has changed, and no mutator.
-- Where no block from there on is Free, nothing has.
abbrev pub ZeroesBetween : ℕ → Stage → Stage → Option ℕ → Type 0
ZeroesBetween from (stage.Between space actors) after block = (space' : Space) × (after ≡ stage.Between space' actors) × ZeroesNext from space space' block
ZeroesBetween from _ after block = ⊥

-- of which block they are, or that none was left
abbrev pub trimmed_of : Option ℕ → Trimmed
trimmed_of (Some block) = trimmed.Block block
trimmed_of None = trimmed.NoneFree

-- What has come of the wish that they be 0. The heap is that of each history that it was of, with what its next pause lists; no history has it.
abbrev pub Trims : ℕ → Trimmed → Heaped → Heaped → Type 0
Trims from (trimmed.Block block) before after = ZeroesBetween from before.stage after.stage (Some block) × HasMoved before after
Trims from trimmed.NoneFree before after = ZeroesBetween from before.stage after.stage None × (after ≡ before)
Trims from trimmed.Within before after = IsWithin before.stage × (after ≡ before)
Trims from trimmed.Ended before after = IsEnded before.stage × (after ≡ before)
Trims from trimmed.Lost before after = (before.stage ≡ stage.Lost) × (after ≡ before)
