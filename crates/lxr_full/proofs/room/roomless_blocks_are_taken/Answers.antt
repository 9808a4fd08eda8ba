use Rattle.lxr_full.proofs.RoomLemmas.{roomless_blocks_are_taken}
use Rattle.lxr_full.proofs.room.roomless_blocks_are_taken.Goals as goal

pub returns : goal.returns
returns c = roomless_blocks_are_taken
