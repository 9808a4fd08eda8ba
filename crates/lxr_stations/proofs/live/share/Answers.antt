use Rattle.std.proofs.Common.{rules, ◌∙◌, ap, length, subst, sym}
use Rattle.lxr_shared.proofs.Openings.{dealt_length}
use Rattle.lxr_actor.specs.declared.Core.{Core}
use Rattle.lxr_actor.specs.Run.{core_of}
use Rattle.lxr_core.specs.declared.actors.AnyActor.{AnyActor}
use Rattle.lxr_core.specs.Closing.{AreResting}
use Rattle.lxr_shared.specs.Sharing.{Sharing}
use Rattle.lxr_shared_passes.specs.Passing.{dealt}
use Rattle.lxr_stations.specs.Homes.{ArePassesFrom}
use Rattle.lxr_stations.proofs.HomeLemmas.{dealt_from}
use Rattle.lxr_stations.proofs.live.share.Goals as goal

pub new-requires : goal.new-requires
new-requires c =
    let table = c.into_parts-table.result.0 in
    let parts = c.into_parts-table.ensures.parts in
    let core = core_of c.args.space.words c.args.actors.items in
    let id = ap (λ (e : Sharing). e.id) parts in
    let opening = ap (λ (e : Sharing). e.opening) parts ∙ c.in_ok-epoch.ensures.epoch.0 in
    let all = dealt_from table (subst (λ (k : Core AnyActor). AreResting k.actors) (sym opening) c.requires.resting) in
    subst (ArePassesFrom table 0) (sym c.in_ok-epoch.ensures.passes)
    (subst (λ i. ArePassesFrom table 0 (dealt i core 0 c.args.actors.items)) id (subst (λ (k : Core AnyActor). ArePassesFrom table 0 (dealt table.id k 0 k.actors)) opening all))

pub of-requires-clause-many : goal.of-requires-clause-many
of-requires-clause-many c =
    let many = ap length c.in_ok-epoch.ensures.passes ∙ dealt_length c.in_ok-epoch.epoch.id _ 0 c.args.actors.items in
    let opened = ap (λ e. length e.opening.actors) c.into_parts-table.ensures.parts ∙ ap (λ o. length o.actors) c.in_ok-epoch.ensures.epoch.0 in
    let slots = c.in_ok-homes.ensures.1 in
    let dealt = c.in_ok-epoch.dealt.ok in
    search rules
