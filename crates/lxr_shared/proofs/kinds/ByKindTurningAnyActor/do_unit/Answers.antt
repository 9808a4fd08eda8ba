use Rattle.std.proofs.Common.{◌∙◌, ap, sym, subst}
use Rattle.lxr_actor.specs.Steps.{DoesUnit}
use Rattle.lxr_core.specs.declared.actors.AnyActor.TheVariants as any
use Rattle.lxr_core.specs.Actors.{any_machine}
use Rattle.lxr_shared_passes.specs.Seats.{Did}
use Rattle.lxr_shared.proofs.KindUnits.{decrementer_unit, mutator_unit, tracer_unit}
use Rattle.lxr_shared.proofs.kinds.ByKindTurningAnyActor.do_unit.Goals as goal

pub returns-in-Tracer-clause-unit : goal.returns-in-Tracer-clause-unit
returns-in-Tracer-clause-unit c =
    subst (λ x. DoesUnit any_machine (Did any_machine) x c.args.seated.now (any.Tracer c.do_unit.new.actor) c.do_unit.new.steps) (ap any.Tracer c.deref_mut.ensures.value ∙ sym c.in-Tracer.is)
    (tracer_unit (Did any_machine) c.deref_mut.result.now c.do_unit.new.actor c.args.seated.now c.do_unit.new.steps c.do_unit.ensures.unit)

pub returns-in-Decrementer-clause-unit : goal.returns-in-Decrementer-clause-unit
returns-in-Decrementer-clause-unit c =
    subst (λ x. DoesUnit any_machine (Did any_machine) x c.args.seated.now (any.Decrementer c.do_unit-in-Decrementer.new.actor) c.do_unit-in-Decrementer.new.steps) (ap any.Decrementer c.deref_mut-in-Decrementer.ensures.value ∙ sym c.in-Decrementer.is)
    (decrementer_unit (Did any_machine) c.deref_mut-in-Decrementer.result.now c.do_unit-in-Decrementer.new.actor c.args.seated.now c.do_unit-in-Decrementer.new.steps c.do_unit-in-Decrementer.ensures.unit)

pub returns-in-Mutator-clause-unit : goal.returns-in-Mutator-clause-unit
returns-in-Mutator-clause-unit c =
    subst (λ x. DoesUnit any_machine (Did any_machine) x c.args.seated.now (any.Mutator c.do_unit-in-Mutator.new.self) c.do_unit-in-Mutator.new.steps) (ap any.Mutator c.deref_mut-in-Mutator.ensures.value ∙ sym c.in-Mutator.is)
    (mutator_unit (Did any_machine) c.deref_mut-in-Mutator.result.now c.do_unit-in-Mutator.new.self c.args.seated.now c.do_unit-in-Mutator.new.steps c.do_unit-in-Mutator.ensures.unit)
