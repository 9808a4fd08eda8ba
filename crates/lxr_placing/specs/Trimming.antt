-- Free blocks whose words are made 0, so that their memory may go back to the system.
use Rattle.std.specs.Prelude.{◌≡◌, ◌≢◌, ℕ, ◌/◌, ◌<◌, ◌≤◌, Option, Some, None, nat_eq, if◌then◌else◌}
use Rattle.lxr_layout.specs.declared.TheConstants.{WORDS_IN_BLOCK}
use Rattle.lxr_image.specs.declared.space.Space.{Space}
use Rattle.lxr_image.specs.Spaces.{Turns, tables_of}
use Rattle.lxr_image.specs.Tables.{Tables}
use Rattle.lxr_blocks.specs.declared.states.BlockState.TheVariants.{Free}
use Rattle.lxr_blocks.specs.States.{state_in}
use Rattle.lxr_invariant.specs.AbstractState.{AbstractState}
use Rattle.lxr_invariant.specs.Quiescent.{IsAtRest, IsQuiescent}

-- the tables with 0 for each heap word of a block
abbrev pub with_zeros : Tables → ℕ → Tables
with_zeros t block = record t { heap = λ w. if nat_eq (w / WORDS_IN_BLOCK) block then 0 else t.heap w }

-- no block from one on and below another is Free
abbrev pub NoneIsFree : Tables → ℕ → ℕ → Type 0
NoneIsFree t from end = (b : ℕ) → from ≤ b → b < end → state_in t b ≢ Free

-- the first Free block from one on is another, which is below the end
pub record IsNextFree (t : Tables) (from end block : ℕ) : Type 0 where
  pub reached : from ≤ block
  pub within : block < end
  pub free : state_in t block ≡ Free
  pub passed : NoneIsFree t from block

-- Each word of the first Free block from one on is 0, and nothing else has changed. Where no block from there on is Free, nothing has.
abbrev pub ZeroesNext : ℕ → Space → Space → Option ℕ → Type 0
ZeroesNext from before after (Some block) = IsNextFree (tables_of before) from before.limits.blocks block × Turns before after (with_zeros (tables_of before) block)
ZeroesNext from before after None = NoneIsFree (tables_of before) from before.limits.blocks × (after ≡ before)

-- whatever the one space stood for, at rest or between epochs, the other stands for
pub record StandsForTheSame (before after : Space) : Type 0 where
  pub rests : (g : AbstractState) → IsAtRest before g → IsAtRest after g
  pub quiescent : (g : AbstractState) → IsQuiescent before g → IsQuiescent after g
