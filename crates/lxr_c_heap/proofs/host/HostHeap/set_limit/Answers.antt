use Rattle.lxr_c_heap.proofs.RoomLemmas.{limit_set}
use Rattle.lxr_c_heap.proofs.host.HostHeap.set_limit.Goals as goal

pub returns : goal.returns
returns c =
    limit_set c.args.self.now c.free_blocks-free.result c.due_after-self.result c.limit-self.result c.sooner-self.result c.turn_of-self.result c.free_blocks-free.ensures c.due_after-self.ensures c.limit-self.ensures c.sooner-self.ensures c.turn_of-self.ensures
