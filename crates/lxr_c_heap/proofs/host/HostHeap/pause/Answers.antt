use Rattle.lxr_c_heap.proofs.RoomLemmas.{paused_rest}
use Rattle.lxr_c_heap.proofs.host.HostHeap.pause.Goals as goal

pub returns : goal.returns
returns c = λ h is. record {
  heap = c.pause.ensures.pauses h is;
  rest = paused_rest c.args.self.now c.pause.new.self c.args.collect c.free_blocks-free.result c.after-self.result c.due_after-self.result c.limit-self.result c.first_slice-self.result c.turn_of-self.result c.free_blocks-free.ensures c.after-self.ensures
      c.due_after-self.ensures c.limit-self.ensures c.first_slice-self.ensures c.turn_of-self.ensures;
}
