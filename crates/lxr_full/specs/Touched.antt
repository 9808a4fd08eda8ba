-- Slots of lines, and which of them objects have touched.
use Rattle.std.specs.Prelude.{ℕ, zero, suc, ◌+◌, ◌-◌, ◌*◌, ◌/◌, ◌&&◌, not, Bool, true, if◌then◌else◌}
use Rattle.lxr_layout.specs.declared.TheConstants.{LINES_IN_BLOCK, WORLD_LINES}
use Rattle.lxr_image.specs.Tables.{Tables}
use Rattle.lxr_blocks.specs.Lines.{free_in}

-- The lines of a block are cut into slots of k lines, one behind another, and lines are left over at its end. In block 0
-- the slots begin behind the lines of the world.
abbrev pub slots_begin : ℕ → ℕ
slots_begin zero = WORLD_LINES
slots_begin (suc b) = 0

-- the slots of k lines that a block has
abbrev pub slots_of : ℕ → ℕ → ℕ
slots_of k b = (LINES_IN_BLOCK - slots_begin b) / k

-- so many lines from one on are all free
unfoldable pub are_free : (ℕ → Bool) → ℕ → ℕ → Bool
are_free free i zero = true
are_free free i (suc n) = are_free free i n && free (i + n)

-- slot j of those that begin at a line is touched: one of its lines isn't free
abbrev pub is_touched : (ℕ → Bool) → ℕ → ℕ → ℕ → Bool
is_touched free k begin j = not (are_free free (begin + j * k) k)

-- how many of the numbers below one pass a test
unfoldable pub count_passing : (ℕ → Bool) → ℕ → ℕ
count_passing passes zero = 0
count_passing passes (suc n) = count_passing passes n + (if passes n then 1 else 0)

-- the touched slots of a block
abbrev pub touched_in : Tables → ℕ → ℕ → ℕ
touched_in t k b = count_passing (is_touched (free_in t b) k (slots_begin b)) (slots_of k b)

-- the touched slots of so many blocks
unfoldable pub touched_slots : Tables → ℕ → ℕ → ℕ
touched_slots t zero k = 0
touched_slots t (suc b) k = touched_slots t b k + touched_in t k b
