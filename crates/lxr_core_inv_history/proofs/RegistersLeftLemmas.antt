-- Registers are left by helpers: what they hold stands in no table.
use Rattle.lxr_core_invariant.specs.Laws.{RegistersAreLeft}

-- registers hold what they held
pub registers_are_left : RegistersAreLeft
registers_are_left b s u ds ts is leaves = is.image.registers
