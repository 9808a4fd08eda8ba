use Rattle.std.proofs.Common.{◌≡◌, sym, ap, subst}
use Rattle.lxr_shared.specs.Ends.{IsBetweenUnits}
use Rattle.lxr_shared.proofs.UnitEnds.{ordered_between}
use Rattle.lxr_shared.proofs.epoch.Pass.order_at.Goals as goal

pub invariant_of-self : goal.invariant_of-self
invariant_of-self c =
    subst IsBetweenUnits (sym (ap (λ z. z.0) c.order.ensures.answer)) (ordered_between c.self.inside.pass.actor c.args.op c.self.invariant)
