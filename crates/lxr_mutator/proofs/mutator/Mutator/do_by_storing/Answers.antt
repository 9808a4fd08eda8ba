use Rattle.lxr_mutator.proofs.StraightLemmas.{still_asked}
use Rattle.lxr_mutator.proofs.mutator.Mutator.do_by_storing.Goals as goal

pub reach_barrier-requires-clause-op : goal.reach_barrier-requires-clause-op
reach_barrier-requires-clause-op g c = still_asked g.S.Steps.did _ _ _ _ c.args.op c.requires.op c.load_pause_word.ensures.step
