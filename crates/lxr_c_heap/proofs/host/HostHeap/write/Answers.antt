use Rattle.lxr_c_heap.proofs.RoomLemmas.{written_room}
use Rattle.lxr_c_heap.proofs.host.HostHeap.write.Goals as goal

pub returns-clause-serving : goal.returns-clause-serving
returns-clause-serving c = written_room c.args.self.now c.write.new.self c.args.base c.args.index c.args.from.now c.write.result c.requires.serving c.write.ensures
