-- What holds of each decrementer, and what becomes of it between its steps.
use Rattle.lxr_layout.specs.declared.limits.Limits.{Limits}
use Rattle.lxr_helper.specs.Helpers as helper
use Rattle.lxr_decrement.specs.Decrementing.{DecrementerState}
use Rattle.lxr_decrement.specs.Steps.{decrementer_work}

-- what holds of each decrementer
abbrev pub IsDecrementer : DecrementerState → Type 0
IsDecrementer d = helper.IsHelper decrementer_work d

-- a decrementer as it is made
abbrev pub first : Limits → DecrementerState
first limits = helper.first decrementer_work limits

-- a new epoch begins
abbrev pub again : DecrementerState → DecrementerState
again d = helper.again decrementer_work d
