use Rattle.lxr_c_heap.proofs.RoomLemmas.{worked_rest}
use Rattle.lxr_c_heap.proofs.host.HostHeap.work.Goals as goal

pub returns : goal.returns
returns c = λ h is. record {
  heap = c.work-slice.ensures h is;
  rest = worked_rest c.args.self.now c.work-slice.new.self c.work-slice.result c.args.next c.slice_after-self.result c.turn_of-self.result c.slice_after-self.ensures c.turn_of-self.ensures;
}
