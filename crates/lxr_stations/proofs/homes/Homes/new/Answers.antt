use Rattle.std.proofs.Common.{◌≡◌, ◌∙◌, arith, ap, length, vec_len}
use Rattle.lxr_stations.proofs.HomeLemmas.{ones, opens}
use Rattle.lxr_stations.proofs.homes.Homes.new.Goals as goal

pub new-requires : goal.new-requires
new-requires c =
    let ok = c.args.passes.ok in
    let many : vec_len c.args.passes ≡ length c.args.passes.items = omega arith in
    opens c.args.epoch.now c.deref.result.now c.settle.new.places.items c.args.passes.items (c.deref.ensures.value ∙ c.settle.ensures.words ∙ ap ones many) c.settle.ensures.places c.requires
