-- What becomes of a value by turns, and of a list of values by a relay.
use Rattle.std.specs.Prelude.{◌≡◌, ℕ, Bool, true, false, List, length, Some, slice_get}

-- `made` tells of a turn what it made of which value, and what it answered
module _ {T : Type 0} (made : T → T → Bool → Type 0) where
  -- a value became this by a list of turns that all answered false
  pub data GoesOn (first : T) : T → Type 0 where
    untouched : GoesOn first first
    turned : {before after : T} → GoesOn first before → made before after false → GoesOn first after

  -- a value became this by a list of turns, whose last one answered true and no earlier one did
  pub record Finishes (first last : T) : Type 0 where
    pub before : T
    pub goes_on : GoesOn first before
    pub ends : made before last true

  -- there are as many values as there were, and at each place stands what the value of that place was finished to
  pub record HasRelayed (values after : List T) : Type 0 where
    pub many : length after ≡ length values
    pub each : (place : ℕ) (first last : T) → slice_get values place ≡ Some first → slice_get after place ≡ Some last → Finishes first last
