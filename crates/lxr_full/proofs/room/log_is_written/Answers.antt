use Rattle.lxr_full.proofs.RoomLemmas.{log_is_written}
use Rattle.lxr_full.proofs.room.log_is_written.Goals as goal

pub returns : goal.returns
returns c = log_is_written
