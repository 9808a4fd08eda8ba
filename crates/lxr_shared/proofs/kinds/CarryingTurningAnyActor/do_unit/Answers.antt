use Rattle.std.proofs.Common.{◌∙◌, ap, sym, subst}
use Rattle.lxr_actor.specs.Steps.{DoesUnit}
use Rattle.lxr_core.specs.declared.actors.AnyActor.TheVariants as any
use Rattle.lxr_core.specs.Actors.{any_machine}
use Rattle.lxr_shared_passes.specs.Seats.{Did}
use Rattle.lxr_shared.specs.Ends.{IsNextOf}
use Rattle.lxr_shared.proofs.KindUnits.{mutator_unit}
use Rattle.lxr_shared.proofs.kinds.CarryingTurningAnyActor.do_unit.Goals as goal

pub do_unit_of-requires-clause-op : goal.do_unit_of-requires-clause-op
do_unit_of-requires-clause-op c = subst (λ a. IsNextOf a c.args.self.now.op) (c.in-Mutator.is ∙ ap any.Mutator (sym c.deref_mut.ensures.value)) c.requires.suits

pub returns-clause-unit : goal.returns-clause-unit
returns-clause-unit c =
    subst (λ x. DoesUnit any_machine (Did any_machine) x c.args.seated.now (any.Mutator c.do_unit_of.new.self) c.do_unit_of.new.steps) (ap any.Mutator c.deref_mut.ensures.value ∙ sym c.in-Mutator.is)
    (mutator_unit (Did any_machine) c.deref_mut.result.now c.do_unit_of.new.self c.args.seated.now c.do_unit_of.new.steps c.do_unit_of.ensures.unit)
