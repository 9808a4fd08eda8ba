use Rattle.std.proofs.Common.{length}
use Rattle.lxr_shared_heap.proofs.heap.+most_ordered.Given as goal

abbrev pub decreases-most_ordered : goal.decreases-most_ordered
decreases-most_ordered l = length l.actors.now
