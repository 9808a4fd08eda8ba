use Rattle.std.proofs.Common.{subst, sym}
use Rattle.lxr_c_heap.specs.Hosting.{IsServing}
use Rattle.lxr_c_heap.proofs.RoomLemmas.{limited_serves}
use Rattle.lxr_c_heap.proofs.host.HostHeap.set_room.Goals as goal

pub returns-clause-serving : goal.returns-clause-serving
returns-clause-serving c = subst IsServing (sym c.set_limit.ensures) (limited_serves c.args.self.now c.args.self.now.pace c.with_blocks-self.result c.requires.serving)
