use Rattle.std.proofs.Common.{rules}
use Rattle.lxr_shared_passes.proofs.Keeps.{splits}
use Rattle.lxr_shared_passes.proofs.open.pass_for.Goals as goal

pub split_seat-seat-requires : goal.split_seat-seat-requires
split_seat-seat-requires g c = (search rules, search rules, splits _ _ _ _)
