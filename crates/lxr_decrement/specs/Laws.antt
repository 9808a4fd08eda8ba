-- What holds of every decrementer, and what its units do. Each law is the contract of a function with an empty body.
use Rattle.lxr_helper.specs.HelperLaws as helper
use Rattle.lxr_decrement.specs.Steps.{decrementer_work}
use Rattle.lxr_decrement.specs.Units.{DoesUnit}

-- a unit has at most 8,192 steps
abbrev pub UnitsAreShort : Type 0
UnitsAreShort = helper.UnitsAreShort decrementer_work

-- There is a next step exactly where a decrementer isn't finished. So a place that it takes brings one, and so does a new epoch; one
-- that it refuses changes nothing.
abbrev pub FinishedByRule : Type 0
FinishedByRule = helper.FinishedByRule decrementer_work

-- What holds of each decrementer holds of one that is made or begins a new epoch, and it holds still after each step, whatever the
-- word was, once a place is offered, and once one is given up. No step leads to another space.
abbrev pub StaysSo : Type 0
StaysSo = helper.StaysSo decrementer_work

-- So each unit ends, from rest to rest. Worked comes only where a number below the list's length was drawn and its entry
-- lowered, or a dead object was claimed and each of its references lowered in turn. Nothing comes only where each place of the pocket
-- was seen to need no work, and the cursor's value that was loaded or drawn wasn't below the list's length.
abbrev pub UnitsEndByRules : Type 0
UnitsEndByRules = helper.UnitsEndByRules decrementer_work DoesUnit
