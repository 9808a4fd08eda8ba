use Rattle.lxr_full.proofs.RoomLemmas.{waiting_may_collect}
use Rattle.lxr_full.proofs.room.waiting_may_collect.Goals as goal

pub returns : goal.returns
returns c = waiting_may_collect
