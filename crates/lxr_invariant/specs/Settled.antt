-- The moment of a pause at which counting is done: what was stored is counted, and nothing was made or written since.
use Rattle.std.specs.Prelude.{◌≡◌, []}
use Rattle.lxr_model.specs.Moments.{Moment}

-- the state now is that of the last pause, and nothing was made or written since
pub record IsSettled (m : Moment) : Type 0 where
  pub same : m.last ≡ m.state
  pub none_made : m.made ≡ []
  pub none_written : m.written ≡ []
