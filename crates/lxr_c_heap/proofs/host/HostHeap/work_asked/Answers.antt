use Rattle.lxr_c_heap.proofs.RoomLemmas.{worked_room}
use Rattle.lxr_c_heap.proofs.host.HostHeap.work_asked.Goals as goal

pub returns-clause-works : goal.returns-clause-works
returns-clause-works c = λ h is. (c.work-slice.result, c.work-slice.ensures h is.heap, c.has_more.ensures)

pub returns-clause-serving : goal.returns-clause-serving
returns-clause-serving c = worked_room 1 1 c.args.self.now c.work-slice.new.self c.args.units c.args.self.now.slice c.work-slice.result c.requires.serving c.work-slice.ensures
