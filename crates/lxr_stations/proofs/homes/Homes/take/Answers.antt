use Rattle.std.proofs.Common.{rules}
use Rattle.lxr_stations.proofs.HomeLemmas.{takes_out}
use Rattle.lxr_stations.proofs.homes.Homes.take.Goals as goal

pub swap_new_seat-found-requires : goal.swap_new_seat-found-requires
swap_new_seat-found-requires c = (search rules, takes_out c.args.self.now.table.shared.key _ _)
