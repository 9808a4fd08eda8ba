use Rattle.std.proofs.Common.{rules, All, ap, length, subst, sym, ◌∙◌}
use Rattle.lxr_shared_passes.specs.Passing.{Passing}
use Rattle.lxr_core.specs.declared.actors.AnyActor.{AnyActor}
use Rattle.lxr_shared.specs.Ends.{IsBetweenUnits}
use Rattle.lxr_shared.proofs.Openings.{dealt_between, dealt_length}
use Rattle.lxr_shared.proofs.open.open_shared.Goals as goal

pub seal-requires-clause-between : goal.seal-requires-clause-between
seal-requires-clause-between c =
    subst (λ ps. All (λ (p : Passing AnyActor). IsBetweenUnits p.actor) ps) (sym c.in_ok-epoch.ensures.passes)
    (dealt_between c.in_ok-epoch.epoch.id _ 0 c.args.actors.items c.requires.resting c.requires.ends)

pub seal-requires-clause-room : goal.seal-requires-clause-room
seal-requires-clause-room c =
    let many = ap length c.in_ok-epoch.ensures.passes ∙ dealt_length c.in_ok-epoch.epoch.id _ 0 c.args.actors.items in
    let dealt = c.in_ok-epoch.passes.ok in
    let given = c.args.actors.ok in
    let asked = c.len-2.ensures in
    let room = c.in_ok-sealed.ensures.capacity in
    (c.in_ok-sealed.ensures.items, search rules)
