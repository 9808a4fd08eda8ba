-- The states of all blocks, as a sweep gives them.
use Rattle.std.specs.Prelude.{◌≡◌, ◌≢◌, ℕ, ◌<◌, ◌≤◌, nat_lt, not, ◌&&◌, if◌then◌else◌}
use Rattle.lxr_image.specs.Tables.{Tables}
use Rattle.lxr_blocks.specs.declared.states.BlockState.TheVariants.{Chosen, World}
use Rattle.lxr_blocks.specs.States.{is_fixed, state_by_lines, state_in, state_number}

-- each of the first so many blocks has the state of its lines, unless it is Chosen or World
abbrev pub with_states_by_lines : Tables → ℕ → Tables
with_states_by_lines t blocks = record t {
  states = λ b. if nat_lt b blocks && not (is_fixed (state_in t b)) then state_number (state_by_lines t b) else t.states b;
}

-- the first so many blocks were swept between these tables
pub record AreSwept (before after : Tables) (blocks : ℕ) : Type 0 where
  -- a block that is neither Chosen nor World has the state of its lines
  pub by_lines : (b : ℕ) → b < blocks → state_in before b ≢ Chosen → state_in before b ≢ World → state_in after b ≡ state_by_lines after b
  -- which are free as before
  pub lines : (b : ℕ) → state_by_lines after b ≡ state_by_lines before b
  -- the other blocks stay what they were
  pub chosen : (b : ℕ) → state_in before b ≡ Chosen → state_in after b ≡ Chosen
  pub world : (b : ℕ) → state_in before b ≡ World → state_in after b ≡ World
  pub past : (b : ℕ) → blocks ≤ b → after.states b ≡ before.states b

-- so it is after each sweep
abbrev pub SweptIsByLines : Type 0
SweptIsByLines = (t : Tables) (blocks : ℕ) → AreSwept t (with_states_by_lines t blocks) blocks
