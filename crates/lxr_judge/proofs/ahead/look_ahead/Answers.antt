use Rattle.lxr_judge.proofs.AheadLemmas.{ahead_more}
use Rattle.lxr_judge.proofs.ahead.look_ahead.Goals as goal

pub loop-before-preserved : goal.loop-before-preserved
loop-before-preserved c = ahead_more c.loop-before.ahead c.note.new.self c.args.order.now.items c.loop-before.before c.at.result c.at.ensures c.note.ensures c.loop-before.invariant
