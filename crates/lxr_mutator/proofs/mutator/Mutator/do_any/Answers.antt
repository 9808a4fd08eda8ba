use Rattle.lxr_mutator.proofs.StraightLemmas.{still_asked}
use Rattle.lxr_mutator.proofs.mutator.Mutator.do_any.Goals as goal

pub operate-requires-clause-op : goal.operate-requires-clause-op
operate-requires-clause-op g c = still_asked g.S.Steps.did _ _ _ _ c.args.op c.requires.op c.load_pause_word.ensures.step
