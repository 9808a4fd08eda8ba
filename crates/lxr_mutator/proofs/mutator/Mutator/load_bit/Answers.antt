use Rattle.lxr_mutator.proofs.StraightLemmas.{store_acts, store_staged}
use Rattle.lxr_mutator.proofs.mutator.Mutator.load_bit.Goals as goal

pub step-old-requires-clause-next : goal.step-old-requires-clause-next
step-old-requires-clause-next g c = store_acts _ c.requires.busy.0 c.requires.busy.1

pub returns-clause-step : goal.returns-clause-step
returns-clause-step g c =
    let store = c.requires.busy.0 in
    let busy = c.requires.busy.1 in
    store_staged g.S.Steps.did c.args.self.now _ _ _ store c.step-old.result busy (c.look_at_bit.ensures store busy.phase) c.step-old.ensures.did
