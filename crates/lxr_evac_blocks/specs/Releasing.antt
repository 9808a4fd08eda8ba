-- What changes where Chosen blocks are released.
use Rattle.std.specs.Prelude.{◌≡◌, ◌≢◌, ℕ, ◌<◌, nat_lt, ◌&&◌, if◌then◌else◌}
use Rattle.lxr_image.specs.Tables.{Tables, changed}
use Rattle.lxr_blocks.specs.declared.states.BlockState.TheVariants.{Chosen}
use Rattle.lxr_blocks.specs.States.{state_by_lines, state_in, state_number}
use Rattle.lxr_invariant.specs.Lines.{HasStates, NoneChosen, is_chosen}

-- a block has the state of its lines now, where it was Chosen
abbrev pub with_block_released : Tables → ℕ → Tables
with_block_released t b = record t { states = if is_chosen (state_in t b) then (changed t.states b (state_number (state_by_lines t b))) else t.states }

-- so has each of the first so many blocks
abbrev pub with_releases : Tables → ℕ → Tables
with_releases t blocks = record t {
  states = λ b. if nat_lt b blocks && is_chosen (state_in t b) then state_number (state_by_lines t b) else t.states b;
}

-- blocks were released between these tables
pub record AreReleased (t u : Tables) (blocks : ℕ) : Type 0 where
  pub none : NoneChosen u blocks
  pub by_lines : (b : ℕ) → b < blocks → state_in t b ≡ Chosen → state_in u b ≡ state_by_lines u b
  pub others : (b : ℕ) → state_in t b ≢ Chosen → u.states b ≡ t.states b
  pub states : HasStates t blocks → HasStates u blocks

-- so it is with each release
abbrev pub ReleasesLeaveNone : Type 0
ReleasesLeaveNone = (t : Tables) (blocks : ℕ) → AreReleased t (with_releases t blocks) blocks
