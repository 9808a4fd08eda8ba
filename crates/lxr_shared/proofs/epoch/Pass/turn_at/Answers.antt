use Rattle.std.proofs.Common.{◌≡◌, ◌∙◌, sym, ap, subst, false}
use Rattle.std.specs.Prelude.{IsSome, is_some}
use Rattle.lxr_core.specs.declared.actors.AnyActor.{AnyActor}
use Rattle.lxr_core.specs.Actors.{any_machine}
use Rattle.lxr_shared_passes.specs.Passing.{Passing}
use Rattle.lxr_shared.specs.Ends.{end_of}
use Rattle.lxr_shared.proofs.UnitEnds.{turn_ends, turn_tells}
use Rattle.lxr_shared.proofs.epoch.Pass.turn_at.Goals as goal

pub unreachable-requires : goal.unreachable-requires
unreachable-requires c =
    let unit = c.turn_by.ensures.unit in
    let some = (turn_ends unit.0 c.self.inside.pass c.turn_by.new.self c.self.invariant unit.2).1 in
    let none : is_some (end_of c.turn_by.new.self.actor) ≡ false = ap is_some (sym (c.last_turn.ensures ∙ ap end_of c.actor-2.ensures) ∙ c.in_default.is) in
    cc

pub returns-clause-further : goal.returns-clause-further
returns-clause-further c acts =
    let unit = c.turn_by.ensures.unit in
    turn_tells unit.0 c.self.inside.pass c.turn_by.new.self (subst (λ (p : Passing AnyActor). IsSome (any_machine.action p.actor)) (sym c.self.view_is) acts) unit.2
