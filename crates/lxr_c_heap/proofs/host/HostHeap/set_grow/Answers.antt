use Rattle.lxr_c_heap.proofs.RoomLemmas.{grown_serves}
use Rattle.lxr_c_heap.proofs.host.HostHeap.set_grow.Goals as goal

pub returns-clause-serving : goal.returns-clause-serving
returns-clause-serving c = grown_serves c.args.self.now c.args.grow c.requires.serving
