use Rattle.lxr_stand.proofs.RuleLemmas.{parts}
use Rattle.lxr_stand.proofs.line.LineChannel.part.Goals as goal

pub another-requires-clause-rule : goal.another-requires-clause-rule
another-requires-clause-rule g c = parts g.J.Race.fits g.J.Race.made g.J.Race.left g.J.Race.values _ _ c.requires.parts
