use Rattle.std.proofs.Common.{rules, ap}
use Rattle.lxr_shared_passes.proofs.Keeps.{spares}
use Rattle.lxr_shared_passes.proofs.told.say_spared.Goals as goal

pub load-requires : goal.load-requires
load-requires g c = (search rules, search rules, spares _ _ _ _ _ _ c.args.number c.args.actor.now _ (ap (λ z. z.0) c.requires.holds))
