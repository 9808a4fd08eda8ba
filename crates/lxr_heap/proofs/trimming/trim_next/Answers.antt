use Rattle.lxr_heap.proofs.TrimmingLemmas.{trims}
use Rattle.lxr_heap.proofs.trimming.trim_next.Goals as goal

pub returns : goal.returns
returns c = trims c.args.from c.args.heap.now c.zero_next_free.new.space c.zero_next_free.result c.zero_next_free.ensures.zeroes c.zero_next_free.ensures.stands
