use Rattle.lxr_stand.proofs.RuleLemmas.{learns, takes}
use Rattle.lxr_stand.proofs.line.LineChannel.take.Goals as goal

pub try_recv_as-requires-clause-rule : goal.try_recv_as-requires-clause-rule
try_recv_as-requires-clause-rule g c =
    (takes g.J.Race.fits g.J.Race.made g.J.Race.left g.J.Race.values _ _ c.requires.parts, learns g.J.Race.fits g.J.Race.made g.J.Race.left g.J.Race.values _ _)
