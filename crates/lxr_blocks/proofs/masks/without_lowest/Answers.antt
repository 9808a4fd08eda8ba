use Rattle.std.proofs.Common.{arith}
use Rattle.lxr_blocks.proofs.HalvesLemmas.{lowest_gone, others_stay}
use Rattle.lxr_blocks.proofs.masks.without_lowest.Goals as goal

pub returns-else-bits-eq0-clause-lowest : goal.returns-else-bits-eq0-clause-lowest
returns-else-bits-eq0-clause-lowest c i up_to = let some = c.if-bits-eq0.false in lowest_gone c.args.bits i (omega arith) c.ranges.bits.fits up_to

pub returns-else-bits-eq0-clause-others : goal.returns-else-bits-eq0-clause-others
returns-else-bits-eq0-clause-others c i behind = let some = c.if-bits-eq0.false in others_stay c.args.bits i (omega arith) c.ranges.bits.fits behind
