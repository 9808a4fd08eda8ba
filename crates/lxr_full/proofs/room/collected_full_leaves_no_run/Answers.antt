use Rattle.lxr_full.proofs.RoomLemmas.{collected_full_leaves_no_run}
use Rattle.lxr_full.proofs.room.collected_full_leaves_no_run.Goals as goal

pub returns : goal.returns
returns c = collected_full_leaves_no_run
