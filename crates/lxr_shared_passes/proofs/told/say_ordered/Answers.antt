use Rattle.std.proofs.Common.{rules, ap}
use Rattle.lxr_shared_passes.proofs.Keeps.{orders}
use Rattle.lxr_shared_passes.proofs.told.say_ordered.Goals as goal

pub load-requires : goal.load-requires
load-requires g c = (search rules, search rules, orders _ _ _ _ _ _ c.args.number c.args.actor.now _ g.O.Asking.op (ap (λ z. z.0) c.requires.holds))
