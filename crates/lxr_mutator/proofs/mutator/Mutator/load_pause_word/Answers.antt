use Rattle.lxr_mutator.proofs.StraightLemmas.{ready_staged}
use Rattle.lxr_mutator.proofs.mutator.Mutator.load_pause_word.Goals as goal

pub returns-clause-step : goal.returns-clause-step
returns-clause-step g c = ready_staged g.S.Steps.did c.args.self.now _ _ _ c.step-word.result c.requires.busy.0 c.requires.busy.1 c.look_at_pause_word.ensures c.step-word.ensures.did
