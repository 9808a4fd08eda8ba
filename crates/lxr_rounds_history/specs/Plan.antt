-- What rounds go by: epochs with pauses behind them.
use Rattle.std.specs.Prelude.{ℕ}

-- The blocks of the heap, and how many are chosen for evacuation at most; the room of a log, and that for what is remembered; how many registers a
-- thread may name; after how many calls since the last pause it does no more before the next one; every how many pauses a trace begins, and within how
-- many it ends; and how many decrementers there are, and as many tracers.
pub record Plan : Type 0 where
  pub blocks : ℕ
  pub evacuate : ℕ
  pub log : ℕ
  pub remember : ℕ
  pub registers : ℕ
  pub every : ℕ
  pub trace : ℕ
  pub within : ℕ
  pub workers : ℕ
