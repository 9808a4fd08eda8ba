-- Bits that are cleared in the whole heap at once.
use Rattle.std.specs.Prelude.{◌≢◌, ℕ, ◌/◌, ◌⊎◌, Bool, false, IsTrue, if◌then◌else◌}
use Rattle.lxr_layout.specs.declared.TheConstants.{GRANULES_IN_BLOCK, LINES_IN_BLOCK}
use Rattle.lxr_image.specs.Tables.{Tables}
use Rattle.lxr_blocks.specs.declared.clearing_all.Bits.{Bits}
use Rattle.lxr_blocks.specs.declared.clearing_all.Bits.TheVariants.{Outs, Traced}
use Rattle.lxr_blocks.specs.declared.states.BlockState.TheVariants.{Free}
use Rattle.lxr_blocks.specs.States.{state_in}

-- how many such bits of one kind a block has: one a line, or one a granule
abbrev pub bits_in_block : Bits → ℕ
bits_in_block Outs = LINES_IN_BLOCK
bits_in_block Traced = GRANULES_IN_BLOCK

-- how many words they are
abbrev pub words_in_block : Bits → ℕ
words_in_block Outs = 2
words_in_block Traced = 32

-- one of them is set: the line is out, or the granule is marked or gray
abbrev pub IsSet : Tables → Bits → ℕ → Type 0
IsSet t Outs k = IsTrue (t.outs k)
IsSet t Traced k = IsTrue (t.marks k) ⊎ IsTrue (t.grays k)

-- none is set in a block whose state is Free
abbrev pub AreUnsetInFree : Tables → Bits → Type 0
AreUnsetInFree t bits = (k : ℕ) → IsSet t bits k → state_in t (k / bits_in_block bits) ≢ Free

-- the tables with those of them clear that a test names
abbrev pub with_clear : Tables → Bits → (ℕ → Bool) → Tables
with_clear t Outs gone = record t { outs = λ k. if gone k then false else t.outs k }
with_clear t Traced gone = record t { marks = λ k. if gone k then false else t.marks k; grays = λ k. if gone k then false else t.grays k }
