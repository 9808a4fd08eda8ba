use Rattle.lxr_placing.proofs.TrimmingLemmas.{zeroed_stands}
use Rattle.lxr_placing.proofs.trimming.zero_next_free.Goals as goal

pub returns-clause-stands : goal.returns-clause-stands
returns-clause-stands c = zeroed_stands c.args.space.now c.zero_block.new.space c.in_ok-block.block c.in_ok-block.ensures.next.free c.zero_block.ensures
