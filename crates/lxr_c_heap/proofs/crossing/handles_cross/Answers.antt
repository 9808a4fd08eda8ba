use Rattle.lxr_c_heap.proofs.handle.Handle.TheSendSync.{the_send}
use Rattle.lxr_c_heap.proofs.crossing.handles_cross.Goals as goal

pub returns : goal.returns
returns c = the_send
