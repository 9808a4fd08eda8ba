use Rattle.std.proofs.Common.{◌-◌, length}
use Rattle.lxr_stations.proofs.live.+gather.Given as goal

abbrev pub decreases-gather : goal.decreases-gather
decreases-gather l = length l.shared.value.opening.actors - l.number
