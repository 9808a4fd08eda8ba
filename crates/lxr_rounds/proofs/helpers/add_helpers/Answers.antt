use Rattle.std.proofs.Common.{arith}
use Rattle.lxr_rounds.proofs.helpers.add_helpers.Goals as goal

pub add_tracers-requires-clause-room : goal.add_tracers-requires-clause-room
add_tracers-requires-clause-room c = let room = c.requires.room in let after = c.in_ok-add_decrementers.ensures.room in omega arith
