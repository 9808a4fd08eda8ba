use Rattle.std.proofs.Common.{ℕ, ◌≤◌, List, length, subst}
use Rattle.lxr_shared_passes.specs.Passing.{Passing, IsSamePass, Turned}
use Rattle.lxr_shared_passes.specs.Seats.{pass_of}
use Rattle.lxr_shared_passes.proofs.Units.{turn_same, unit_turned}
use Rattle.lxr_shared_passes.proofs.pass.ActorPass.turn_by.Goals as goal

pub returns-clause-pass : goal.returns-clause-pass
returns-clause-pass g c =
    let after = pass_of c.do_unit.new.seated c.do_unit.new.actor in
    let turn = unit_turned g.A.Actor.machine c.self.inside.actor c.do_unit.new.actor c.self.inside.seated c.do_unit.new.seated c.do_unit.ensures.unit in
    subst (λ (p : Passing g.row.A.Denot). IsSamePass p after) c.self.view_is (turn_same g.A.Actor.machine turn.0 _ _ turn.2)

pub returns-clause-unit : goal.returns-clause-unit
returns-clause-unit g c =
    let after = pass_of c.do_unit.new.seated c.do_unit.new.actor in
    subst (λ (p : Passing g.row.A.Denot). (olds : List ℕ) × (length olds ≤ g.A.Actor.machine.left p.actor) × Turned g.A.Actor.machine p olds after) c.self.view_is
    (unit_turned g.A.Actor.machine c.self.inside.actor c.do_unit.new.actor c.self.inside.seated c.do_unit.new.seated c.do_unit.ensures.unit)
