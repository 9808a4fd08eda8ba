-- The settings of a heap: which sizes are known, the ranges of their numbers, and the room that they say.
use Rattle.std.specs.Prelude.{◌≡◌, ℕ, ◌+◌, ◌≤◌, ◌==◌, ◌⊎◌, nat_le, ◌||◌, Bool, if◌then◌else◌}
use Rattle.lxr_layout.specs.declared.TheConstants.{LEAST_REGISTERS, MOST_BLOCKS, REGISTERS}
use Rattle.lxr_heap.specs.declared.opening.Sizes.{Sizes}
use Rattle.lxr_c_heap.specs.declared.settings.Settings.{Settings}
use Rattle.lxr_c_heap.specs.declared.room.Room.{Room}
use Rattle.lxr_c_heap.specs.declared.room.TheConstants.{MOST_GROW}
use Rattle.lxr_c_heap.specs.declared.settings.TheConstants.{FIRST_SETTINGS_BYTES, LOG_ENTRIES, OWN_REGISTERS, SECOND_SETTINGS_BYTES, SETTINGS_BYTES, THIRD_SETTINGS_BYTES}
use Rattle.lxr_c_heap.specs.declared.working.TheConstants.{MOST_WORK}
use Rattle.lxr_c_heap.specs.Rooms.{blocks_said}

-- the sizes that are known
abbrev pub IsKnownSize : ℕ → Type 0
IsKnownSize size = (size ≡ SETTINGS_BYTES) ⊎ (size ≡ THIRD_SETTINGS_BYTES) ⊎ (size ≡ SECOND_SETTINGS_BYTES) ⊎ (size ≡ FIRST_SETTINGS_BYTES)

-- so many blocks a heap may have, of either kind
abbrev pub IsBlockCount : ℕ → Type 0
IsBlockCount n = (1 ≤ n) × (n ≤ MOST_BLOCKS)

-- so many registers a host may name
abbrev pub IsRegisterCount : ℕ → Type 0
IsRegisterCount n = (LEAST_REGISTERS ≤ n) × (n ≤ REGISTERS)

-- how many registers the host of a heap of these settings names: those of version 0.2 don't say it, and 0 says nothing; then they are the fewest
abbrev pub registers_of : Settings → ℕ
registers_of s = if s.size == FIRST_SETTINGS_BYTES then LEAST_REGISTERS else (if s.registers == 0 then LEAST_REGISTERS else s.registers)

-- how many registers a heap has whose host names so many: behind them the library has two of its own, where there is room for both
abbrev pub with_own : ℕ → ℕ
with_own named = if nat_le (named + OWN_REGISTERS) REGISTERS then named + OWN_REGISTERS else named

-- how large a heap of settings is: its log has as many entries as that of any other
abbrev pub sizes_of : Settings → Sizes
sizes_of s = record { blocks = s.blocks; bodies = s.body_blocks; registers = with_own (registers_of s); log = LOG_ENTRIES }

-- settings of these sizes say a room
abbrev pub says_room : Settings → Bool
says_room s = s.size == SETTINGS_BYTES || s.size == THIRD_SETTINGS_BYTES

-- the room that is said in blocks, where 0 is all, and its growth in hundredths: shorter settings say neither, and then there is room for all, for good
abbrev pub room_said : Settings → ℕ
room_said s = if says_room s then s.room else 0

abbrev pub grow_said : Settings → ℕ
grow_said s = if says_room s then s.grow else 0

-- how many units of what waits a heap does for each 64 bytes of new objects: shorter settings don't say it, and then it does none
abbrev pub work_said : Settings → ℕ
work_said s = if s.size == SETTINGS_BYTES then s.work else 0

-- the room of a heap that is opened with settings
abbrev pub room_of : Settings → Room
room_of s = record { reserved = s.blocks; blocks = blocks_said s.blocks (room_said s); grow = grow_said s; most = blocks_said s.blocks (room_said s) }

-- settings of a size that is known, with such blocks and registers as a heap may have, room for no more than these blocks, and neither growth nor work
-- beyond bounds
pub record AreSettings (s : Settings) : Type 0 where
  pub size : IsKnownSize s.size
  pub blocks : IsBlockCount s.blocks
  pub bodies : IsBlockCount s.body_blocks
  pub registers : IsRegisterCount (registers_of s)
  pub room : room_said s ≤ s.blocks
  pub grow : grow_said s ≤ MOST_GROW
  pub work : work_said s ≤ MOST_WORK
