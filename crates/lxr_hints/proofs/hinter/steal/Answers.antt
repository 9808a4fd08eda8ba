use Rattle.std.proofs.Common.{rules, refl, ◌∙◌}
use Rattle.lxr_hints.specs.Taking.NoneGiven.{no_try}
use Rattle.lxr_hints.proofs.Tries.{one_more}
use Rattle.lxr_hints.proofs.hinter.steal.Goals as goal

pub loop-number-init : goal.loop-number-init
loop-number-init g c = record { none = no_try; holds = c.requires.holds; pushed = refl; others = refl }

pub loop-number-preserved : goal.loop-number-preserved
loop-number-preserved g c = record {
  none = one_more g.D.Deques.stolen _ _ _ _ _ c.loop-number.invariant.none (search rules) c.steal-stolen.ensures.stolen;
  holds = c.steal-stolen.ensures.holds;
  pushed = c.steal-stolen.ensures.pushed ∙ c.loop-number.invariant.pushed;
  others = c.steal-stolen.ensures.others ∙ c.loop-number.invariant.others;
}
