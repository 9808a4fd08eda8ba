use Rattle.lxr_mutator.proofs.StraightLemmas.{wipe_staged}
use Rattle.lxr_mutator.proofs.mutator.Mutator.wipe_next.Goals as goal

pub returns-clause-step : goal.returns-clause-step
returns-clause-step g c = wipe_staged g.S.Steps.did _ _ _ _ c.args.place c.args.next c.step.result c.requires.busy c.wipe_word.ensures c.step.ensures.did
