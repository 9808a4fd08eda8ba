use Rattle.std.proofs.Common.{◌≡◌, map, take}
use Rattle.lxr_actor.specs.declared.Event.TheVariants.{Step}
use Rattle.lxr_actor.specs.Run.{core_of, run}
use Rattle.lxr_actor.proofs.replay.Given as goal

abbrev pub invariant-loop-number : goal.invariant-loop-number
invariant-loop-number g l = core_of l.words l.actors ≡ run g.A.Actor.machine (core_of l.fn.words l.fn.actors) (map Step (take l.number-index l.schedule))
