use Rattle.std.proofs.Common.{◌∙◌, sym}
use Rattle.lxr_actor.specs.Steps.{rests}
use Rattle.lxr_mutator.proofs.mutator.Mutator.finish.Goals as goal

pub returns-else-not-resting-clause-rest : goal.returns-else-not-resting-clause-rest
returns-else-not-resting-clause-rest g c = rests (sym c.resting.ensures.rests ∙ c.if-not-resting.false)
