use Rattle.std.proofs.Common.{◌+◌, ◌*◌, length}
use Rattle.lxr_run_threads.proofs.workers.+hands.Given as goal

-- Each worker that is let work leaves one fewer.

abbrev pub decreases-let_work : goal.decreases-let_work
decreases-let_work g l = length l.hands.now * 3

abbrev pub decreases-let_both_work : goal.decreases-let_both_work
decreases-let_both_work g l = length l.others.now * 3 + 2

abbrev pub decreases-let_both_work-join_mut+arg3 : goal.decreases-let_both_work-join_mut+arg3
decreases-let_both_work-join_mut+arg3 g l = length l.others.now * 3 + 1
