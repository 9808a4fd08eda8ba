use Rattle.std.proofs.Common.{◌≡◌, true}
use Rattle.lxr_stations.specs.Stations.{is_mutator}
use Rattle.lxr_c_shared.proofs.RefusalLemmas.{used_up}
use Rattle.lxr_c_shared.proofs.passing.refusal.Goals as goal

pub returns-else-is_open : goal.returns-else-is_open
returns-else-is_open c = λ o why.
    let mutator : is_mutator c.args.station.now.pass.actor ≡ true = cc in
    used_up c.args.station.now.pass.actor o mutator (λ pending. let yes = c.is_open.ensures.open.1 pending in absurd (cc)) why
