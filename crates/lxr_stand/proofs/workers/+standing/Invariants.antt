use Rattle.std.proofs.Common.{◌+◌, ◌*◌, length}
use Rattle.lxr_stand.proofs.workers.+standing.Given as goal

-- Each hand that is let serve leaves one fewer.

abbrev pub decreases-let_serve : goal.decreases-let_serve
decreases-let_serve g l = length l.hands.now * 3

abbrev pub decreases-let_both_serve : goal.decreases-let_both_serve
decreases-let_both_serve g l = length l.others.now * 3 + 2

abbrev pub decreases-let_both_serve-join_mut+arg3 : goal.decreases-let_both_serve-join_mut+arg3
decreases-let_both_serve-join_mut+arg3 g l = length l.others.now * 3 + 1
