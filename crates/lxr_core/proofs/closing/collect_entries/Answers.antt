use Rattle.std.proofs.Common.{◌∙◌}
use Rattle.lxr_core.proofs.CollectingLemmas.{push_next}
use Rattle.lxr_core.proofs.closing.collect_entries.Goals as goal

pub loop-at-preserved : goal.loop-at-preserved
loop-at-preserved c = c.push.ensures ∙ push_next c.args.entries.now c.loop-at.entries c.args.log.now.items c.loop-at.at c.entry.result c.loop-at.invariant c.entry.ensures
