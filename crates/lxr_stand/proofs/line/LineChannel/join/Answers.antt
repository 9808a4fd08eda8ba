use Rattle.lxr_stand.proofs.RuleLemmas.{joins}
use Rattle.lxr_stand.proofs.line.LineChannel.join.Goals as goal

pub absorb-requires-clause-rule : goal.absorb-requires-clause-rule
absorb-requires-clause-rule g c = joins g.J.Race.fits g.J.Race.made g.J.Race.left g.J.Race.values _ _ _ _ c.requires.parts
