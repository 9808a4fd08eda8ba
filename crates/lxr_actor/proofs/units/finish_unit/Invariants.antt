use Rattle.lxr_actor.specs.Machine.{to_go}
use Rattle.lxr_actor.specs.Steps.{Finishes}
use Rattle.lxr_actor.proofs.units.finish_unit.Given as goal

-- whatever finishes the unit from here finishes it from the beginning
abbrev pub invariant-loop-actor : goal.invariant-loop-actor
invariant-loop-actor g l = record {
  holds : g.S.Steps.holds l.table l.steps l.actor;
  rest : (c : g.row.A.Denot) (u : g.row.S.Denot) → Finishes g.A.Actor.machine g.S.Steps.did l.actor l.steps c u → Finishes g.A.Actor.machine g.S.Steps.did l.fn.actor l.fn.steps c u;
}

abbrev pub decreases-loop-actor : goal.decreases-loop-actor
decreases-loop-actor g l = to_go g.A.Actor.machine l.actor
