use Rattle.lxr_actor.specs.Machine.{to_go}
use Rattle.lxr_actor.specs.Steps.{Finishes}
use Rattle.lxr_mutator.specs.Mutating.{Mutating, op_now}
use Rattle.lxr_mutator.specs.Mutators.{IsAskedIn}
use Rattle.lxr_mutator.specs.Steps.{mutator_machine}
use Rattle.lxr_mutator.proofs.mutator.Mutator.make_object.Given as goal

-- whatever finishes the unit from here finishes it from the beginning
abbrev pub invariant-loop-self : goal.invariant-loop-self
invariant-loop-self g l = record {
  op : IsAskedIn l.self.phase l.op (op_now l.self);
  holds : g.S.Steps.holds l.table l.steps l.self;
  rest : (m : Mutating) (u : g.row.S.Denot) → Finishes mutator_machine g.S.Steps.did l.self l.steps m u → Finishes mutator_machine g.S.Steps.did l.fn.self l.fn.steps m u;
}

abbrev pub decreases-loop-self : goal.decreases-loop-self
decreases-loop-self g l = to_go mutator_machine l.self
