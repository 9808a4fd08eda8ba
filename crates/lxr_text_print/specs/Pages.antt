-- Text on its way to a sink, of which a part waits on a page.
use Rattle.std.specs.Prelude.{◌≡◌, ℕ, Option, List, ◌++◌}
use Rattle.lxr_text_stream.specs.Streams.{Appends}

-- the text's front was written to the sink, and the rest of it waits
pub record Moves (before after : Option (List ℕ)) (text waits : List ℕ) : Type 0 where
  pub sent : List ℕ
  pub written : Appends before after sent
  pub in_order : text ≡ sent ++ waits
