use Rattle.lxr_stand.proofs.RuleLemmas.{begins}
use Rattle.lxr_stand.proofs.line.Line.open.Goals as goal

pub bounded_with-requires-clause-rule : goal.bounded_with-requires-clause-rule
bounded_with-requires-clause-rule g c = begins g.J.Race.fits g.J.Race.made g.J.Race.left g.J.Race.values
