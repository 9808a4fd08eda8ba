use Rattle.std.proofs.Common.{arith}
use Rattle.lxr_blocks.proofs.HandingLemmas.{begun_used}
use Rattle.lxr_blocks.proofs.placing.write_object.Goals as goal

pub put_used-requires-clause-used : goal.put_used-requires-clause-used
put_used-requires-clause-used c =
    begun_used c.args.space.now c.loop-at.space c.args.granule c.loop-at.at c.args.name c.args.shape c.loop-at.invariant.turns (omega arith) (omega arith) c.requires.granule c.requires.block
