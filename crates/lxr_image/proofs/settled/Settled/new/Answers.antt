use Rattle.std.proofs.Common.{refl}
use Rattle.lxr_image.proofs.SettledLemmas.{clear_known}
use Rattle.lxr_image.proofs.settled.Settled.new.Goals as goal

pub returns-clause-knows : goal.returns-clause-knows
returns-clause-knows c t clear = clear_known _ t c.in_ok-new.ensures c.in_ok-new-2.ensures (c.in_ok-vec.ensures.items_if_clones_equal (λ y e. e)) c.in_ok-new-3.ensures refl clear
