use Rattle.lxr_shared.proofs.UnitEnds.{turn_between, turn_ends}
use Rattle.lxr_shared.proofs.epoch.Pass.carry_out_at.Goals as goal

pub invariant_of-self : goal.invariant_of-self
invariant_of-self c =
    let unit = c.turn_by.ensures.unit in
    let ends = turn_ends unit.0 c.self.inside.pass c.turn_by.new.self c.self.invariant unit.2 in
    turn_between c.turn_by.new.self.actor ends.0 ends.1
