use Rattle.lxr_c_shared.proofs.holder.Holder.TheSendSync.{the_send}
use Rattle.lxr_c_shared.proofs.crossing.holders_cross.Goals as goal

pub returns : goal.returns
returns c = the_send
