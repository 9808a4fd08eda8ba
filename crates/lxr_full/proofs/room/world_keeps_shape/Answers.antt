use Rattle.lxr_full.proofs.WorldLemmas.{world_keeps_shape}
use Rattle.lxr_full.proofs.room.world_keeps_shape.Goals as goal

pub returns : goal.returns
returns c = world_keeps_shape
