use Rattle.std.proofs.Common.{◌∙◌, sym}
use Rattle.lxr_actor.proofs.step.Goals as goal

pub get-old-requires : goal.get-old-requires
get-old-requires g c = c.requires c.in-Some.action (sym c.next.ensures ∙ c.in-Some.is)
