use Rattle.std.proofs.Common.{All, ap, subst, ◌∙◌, ◌++◌}
use Rattle.std.specs.Vec.Iter.{into_iter_items}
use Rattle.lxr_shared_passes.specs.Passing.{Passing}
use Rattle.lxr_shared_passes.proofs.Ends.{all-middle}
use Rattle.lxr_core.specs.declared.actors.AnyActor.{AnyActor}
use Rattle.lxr_shared.specs.Ends.{IsBetweenUnits}
use Rattle.lxr_shared.proofs.open.seal.Goals as goal

pub invariant_of-push_reserved : goal.invariant_of-push_reserved
invariant_of-push_reserved c =
    let sealed = c.loop-pass.sealed.items in
    let rest = into_iter_items c.next.new.self in
    all-middle (λ (p : Passing AnyActor). IsBetweenUnits p.actor) sealed c.in-Some.pass rest
    (subst (λ ps. All (λ (p : Passing AnyActor). IsBetweenUnits p.actor) ps) (c.loop-pass.invariant.taken ∙ ap (λ ps. sealed ++ ps) c.in-Some.ensures.items) c.requires.between)
