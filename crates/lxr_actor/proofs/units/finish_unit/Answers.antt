use Rattle.std.proofs.Common.{◌∙◌, sym}
use Rattle.lxr_actor.specs.Steps.{rests, goes_on}
use Rattle.lxr_actor.proofs.units.finish_unit.Goals as goal

pub loop-actor-preserved : goal.loop-actor-preserved
loop-actor-preserved g c =
    let busy = sym c.resting.ensures.rests ∙ c.loop-actor-test.true in record {
      holds = c.act.ensures.holds;
      rest = λ b u f. c.loop-actor.invariant.rest b u (goes_on busy c.act.ensures.step f);
    }

pub returns-clause-rest : goal.returns-clause-rest
returns-clause-rest g c = c.loop-actor.invariant.rest _ _ (rests (sym c.resting.ensures.rests ∙ c.loop-actor-test.false))
