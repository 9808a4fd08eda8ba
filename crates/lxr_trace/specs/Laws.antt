-- What holds of every tracer, and what its units do. Each law is the contract of a function with an empty body.
use Rattle.lxr_helper.specs.HelperLaws as helper
use Rattle.lxr_trace.specs.Steps.{tracer_work}
use Rattle.lxr_trace.specs.Units.{DoesUnit}

-- a unit has at most 8,192 steps
abbrev pub UnitsAreShort : Type 0
UnitsAreShort = helper.UnitsAreShort tracer_work

-- There is a next step exactly where a tracer isn't finished. So a place that it takes brings one, and so does a new epoch; one
-- that it refuses changes nothing.
abbrev pub FinishedByRule : Type 0
FinishedByRule = helper.FinishedByRule tracer_work

-- What holds of each tracer holds of one that is made or begins a new epoch, and it holds still after each step, whatever the
-- word was, once a place is offered, and once one is given up. No step leads to another space.
abbrev pub StaysSo : Type 0
StaysSo = helper.StaysSo tracer_work

-- So each unit ends, from rest to rest. Worked comes only where a gray object was marked, which was unmarked until then, and
-- scanned whole, and each number that was drawn for the remembered set was below its room. RememberFull comes only where one of
-- these wasn't, and the object is scanned whole all the same. Nothing comes only where each place of the pocket was seen to need
-- no work.
abbrev pub UnitsEndByRules : Type 0
UnitsEndByRules = helper.UnitsEndByRules tracer_work DoesUnit
