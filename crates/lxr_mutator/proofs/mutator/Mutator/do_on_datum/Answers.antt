use Rattle.lxr_mutator.proofs.StraightLemmas.{still_asked}
use Rattle.lxr_mutator.proofs.mutator.Mutator.do_on_datum.Goals as goal

pub reach_datum-requires-clause-op : goal.reach_datum-requires-clause-op
reach_datum-requires-clause-op g c = still_asked g.S.Steps.did _ _ _ _ c.args.op c.requires.op c.load_pause_word.ensures.step
