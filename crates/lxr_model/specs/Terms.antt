-- The numbers that a run is given.
use Rattle.std.specs.Prelude.{ℕ, Bool}

-- threads, and how many registers the operations of each may name, the first ones; blocks, and how many of these are chosen for evacuation at
-- most; calls of a thread between two pauses; entries of a log; every how many pauses a trace begins, 0 where any pause may begin one, and
-- within how many it ends; and whether names are ever renewed
pub record Terms : Type 0 where
  pub threads : ℕ
  pub registers : ℕ
  pub blocks : ℕ
  pub evacuate : ℕ
  pub every : ℕ
  pub log : ℕ
  pub trace : ℕ
  pub within : ℕ
  pub renews : Bool
