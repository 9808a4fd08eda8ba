use Rattle.lxr_stand.proofs.RuleLemmas.{sends}
use Rattle.lxr_stand.proofs.line.LineChannel.send.Goals as goal

pub try_send_as-requires-clause-rule : goal.try_send_as-requires-clause-rule
try_send_as-requires-clause-rule g c = (sends g.J.Race.fits g.J.Race.made g.J.Race.left g.J.Race.values _ _ _ _ c.requires.out c.requires.way c.requires.paid, λ _ _ _ _. tt)
